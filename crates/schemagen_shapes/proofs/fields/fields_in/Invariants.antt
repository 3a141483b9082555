-- The fields so far, and then those that the rest says.
use Rattle.schemagen_shapes.proofs.Words.{field_of, field_in}
use Rattle.schemagen_shapes.proofs.Lists.{IsReadSoFar}
use Rattle.schemagen_shapes.proofs.fields.fields_in.Given as goal

abbrev pub invariant-loop-item : goal.invariant-loop-item
invariant-loop-item l = IsReadSoFar field_of field_in l.items l.item-index l.fields.items
