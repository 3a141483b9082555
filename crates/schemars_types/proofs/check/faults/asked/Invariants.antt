-- The rows so far, and those below the rows that are left.
use Rattle.std.proofs.Common.{◌≡◌, ◌++◌, drop}
use Rattle.schemars_types.proofs.Words.{shape_of, below_all, asked_in}
use Rattle.schemars_types.proofs.check.faults.asked.Given as goal

abbrev pub invariant-loop-n : goal.invariant-loop-n
invariant-loop-n l =
    l.asked.items ++ below_all l.types (drop l.n-index l.n-items)
    ≡ asked_in l.types (shape_of l.shape)
