-- Those before the place have been copied.
use Rattle.std.proofs.Common.{◌≡◌, false, take}
use Rattle.schemars_transform.specs.Member.{some_own, AreCopies}
use Rattle.schemars_transform.proofs.copies.try_clone_all.Given as goal

abbrev pub invariant-loop-transform : goal.invariant-loop-transform
invariant-loop-transform g l = record {
  copied : AreCopies (take l.transform-index l.transforms) l.copies.items;
  built_in : some_own l.copies.items ≡ false;
}
