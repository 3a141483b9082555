-- The numbers before lead on.
use Rattle.std.proofs.Common.{ℕ, ◌<◌, slice_index_or}
use Rattle.schemars_types.specs.EdgeKind.{LeadsOn}
use Rattle.schemars_types.proofs.check.faults.all_lead_on.Given as goal

abbrev pub invariant-loop-m : goal.invariant-loop-m
invariant-loop-m l = (k d : ℕ) → k < l.m-index → LeadsOn l.types l.from l.n (slice_index_or l.numbers k d)
