-- The numbers before have ranks below the bound.
use Rattle.std.proofs.Common.{ℕ, ◌<◌, slice_index, slice_index_or}
use Rattle.schemars_cycles.proofs.cycles.are_below.Given as goal

abbrev pub invariant-loop-m : goal.invariant-loop-m
invariant-loop-m l = (k d : ℕ) → k < l.m-index → slice_index l.ranks (slice_index_or l.numbers k d) < l.bound
