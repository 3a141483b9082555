-- All that was kept is right, and the place comes nearer.
use Rattle.std.proofs.Common.{◌+◌, ◌-◌, length}
use Rattle.schemars_validate.specs.declared.memo.Memo.{out-Memo}
use Rattle.schemars_validate.specs.Memos.{Keeps}
use Rattle.schemars_validate.proofs.memo.Memo.put.Given as goal

abbrev pub invariant-loop-alloc : goal.invariant-loop-alloc
invariant-loop-alloc l = Keeps l.fn.self l.self

abbrev pub decreases-loop-alloc : goal.decreases-loop-alloc
decreases-loop-alloc l = l.place + 1 - length (out-Memo l.self).parts.items
