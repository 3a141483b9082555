-- No part was marked yet.
use Rattle.std.proofs.Common.{◌≡◌}
use Rattle.schemars_validate.proofs.memo.Memo.recall.Given as goal

abbrev pub invariant-loop-known : goal.invariant-loop-known
invariant-loop-known l = l.marks.items ≡ l.fn.marks.items
