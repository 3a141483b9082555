-- What is reached from here is what is reached from the row.
use Rattle.std.proofs.Common.{◌≡◌, ℕ, ◌+◌, length}
use Rattle.schemars_types.specs.Effective.{without_options, without_options_within}
use Rattle.schemars_types.proofs.optional.without_options.Given as goal

abbrev pub invariant-loop-step : goal.invariant-loop-step
invariant-loop-step l = (left : ℕ) → l._step + left ≡ length l.types
    → without_options_within l.types left l.at ≡ without_options l.types l.n
