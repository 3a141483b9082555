-- The marks so far.
use Rattle.std.proofs.Common.{◌≡◌, take}
use Rattle.schemars_validate.specs.Judged.{united}
use Rattle.schemars_validate.proofs.marks.unite.Given as goal

abbrev pub invariant-loop-place : goal.invariant-loop-place
invariant-loop-place l = l.marks.items ≡ united (take l.place l.others) l.fn.marks.items
