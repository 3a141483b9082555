-- No number before is on a closed walk.
use Rattle.std.proofs.Common.{ℕ, ◌<◌}
use Rattle.schemars_cycles.proofs.Words.{Leads, OnCycle, targets_in}
use Rattle.schemars_cycles.proofs.cycles.least_on_cycle.Given as goal

abbrev pub invariant-loop-n : goal.invariant-loop-n
invariant-loop-n l = (k : ℕ) → k < l.n → ¬ OnCycle (Leads (targets_in l.graph)) k
