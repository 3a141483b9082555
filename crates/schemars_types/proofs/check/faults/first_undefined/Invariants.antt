-- The rows from the first on and before the next are defined.
use Rattle.std.proofs.Common.{ℕ, ◌<◌, ◌≤◌}
use Rattle.schemars_types.specs.Undefined.{IsUndefined}
use Rattle.schemars_types.proofs.check.faults.first_undefined.Given as goal

abbrev pub invariant-loop-n : goal.invariant-loop-n
invariant-loop-n l = (k : ℕ) → l.from ≤ k → k < l.n → ¬ IsUndefined l.types k
