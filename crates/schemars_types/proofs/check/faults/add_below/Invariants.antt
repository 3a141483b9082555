-- The rows so far, and those that are still below.
use Rattle.std.proofs.Common.{◌≡◌, ℕ, ◌+◌, ◌++◌, length}
use Rattle.schemars_types.specs.Edges.{below, below_within}
use Rattle.schemars_types.proofs.check.faults.add_below.Given as goal

abbrev pub invariant-loop-step : goal.invariant-loop-step
invariant-loop-step l = (left : ℕ) → l._step + left ≡ length l.types
    → l.rows.items ++ below_within l.types left l.at ≡ l.fn.rows.items ++ below l.types l.n
