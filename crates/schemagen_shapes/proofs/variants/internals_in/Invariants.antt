-- The variants so far, and then those that the rest says.
use Rattle.schemagen_shapes.proofs.Words.{internal_variant_of, internal_variant_in}
use Rattle.schemagen_shapes.proofs.Lists.{IsReadSoFar}
use Rattle.schemagen_shapes.proofs.variants.internals_in.Given as goal

abbrev pub invariant-loop-item : goal.invariant-loop-item
invariant-loop-item l = IsReadSoFar internal_variant_of internal_variant_in l.items l.item-index l.variants.items
