-- Ranks fall along the edges from the numbers before.
use Rattle.std.proofs.Common.{ℕ, ◌<◌, slice_index, Contains}
use Rattle.schemars_cycles.specs.Search.{targets_in}
use Rattle.schemars_cycles.proofs.cycles.falls.Given as goal

abbrev pub invariant-loop-n : goal.invariant-loop-n
invariant-loop-n l = (k m : ℕ) → k < l.n → Contains (targets_in l.graph k) m → slice_index l.ranks m < slice_index l.ranks k
