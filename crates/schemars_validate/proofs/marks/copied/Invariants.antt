-- The marks so far.
use Rattle.std.proofs.Common.{◌≡◌, take}
use Rattle.schemars_validate.proofs.marks.copied.Given as goal

abbrev pub invariant-loop-mark : goal.invariant-loop-mark
invariant-loop-mark l = l.copy.items ≡ take l.mark-index l.marks.items
