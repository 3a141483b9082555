-- The rows so far, and then those that the rest says.
use Rattle.schemagen_shapes.proofs.Words.{flattened_of, flattened_from}
use Rattle.schemagen_shapes.proofs.Lists.{IsReadSoFar}
use Rattle.schemagen_shapes.proofs.fields.flattened_each.Given as goal

abbrev pub invariant-loop-item : goal.invariant-loop-item
invariant-loop-item l = IsReadSoFar flattened_of flattened_from l.items l.item-index l.rows.items
