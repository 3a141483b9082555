-- The candidates before are used.
use Rattle.std.proofs.Common.{◌≡◌, ◌<◌, ℕ, true}
use Rattle.schemars_build.specs.Naming.{is_used, candidate}
use Rattle.schemars_build.proofs.names.Names.first_unused.Given as goal

abbrev pub invariant-loop-tries : goal.invariant-loop-tries
invariant-loop-tries l = (j : ℕ) → j < l.tries → is_used (candidate l.base j) l.self ≡ true
