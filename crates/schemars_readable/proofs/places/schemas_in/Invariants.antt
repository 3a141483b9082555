-- The references of the first schemas were followed.
use Rattle.schemars_readable.proofs.Words.{view, standing}
use Rattle.schemars_readable.proofs.Following.{SoFar}
use Rattle.schemars_readable.proofs.places.schemas_in.Given as goal

abbrev pub invariant-loop-n : goal.invariant-loop-n
invariant-loop-n l = SoFar (view l.document) l.n l.followed.keys (standing l.places.items)
