-- The variants so far, and then those that the rest says.
use Rattle.schemagen_shapes.proofs.Words.{variant_of, variant_in}
use Rattle.schemagen_shapes.proofs.Lists.{IsReadSoFar}
use Rattle.schemagen_shapes.proofs.variants.variants_in.Given as goal

abbrev pub invariant-loop-item : goal.invariant-loop-item
invariant-loop-item l = IsReadSoFar variant_of variant_in l.items l.item-index l.variants.items
