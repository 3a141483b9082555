-- In the rows from the first on and before the next the names differ.
use Rattle.std.proofs.Common.{ℕ, ◌<◌, ◌≤◌}
use Rattle.schemars_types.proofs.Words.{AreDistinctLists, names_at}
use Rattle.schemars_types.proofs.check.faults.first_repeated.Given as goal

abbrev pub invariant-loop-n : goal.invariant-loop-n
invariant-loop-n l = (k : ℕ) → l.from ≤ k → k < l.n → AreDistinctLists (names_at l.types k)
