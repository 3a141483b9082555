-- The edges from the rows before lead on.
use Rattle.std.proofs.Common.{ℕ, ◌<◌, ◌≤◌, Contains}
use Rattle.schemars_types.specs.EdgeKind.{targets_along, LeadsOn}
use Rattle.schemars_types.proofs.check.faults.ascends.Given as goal

abbrev pub invariant-loop-n : goal.invariant-loop-n
invariant-loop-n l = (k m : ℕ) → l.from ≤ k → k < l.n → Contains (targets_along l.kind l.types k) m → LeadsOn l.types l.from k m
