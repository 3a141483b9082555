-- The patterns so far, and those that are left.
use Rattle.std.proofs.Common.{◌≡◌, ◌++◌, drop}
use Rattle.schemars_readable.proofs.Words.{standing, asked_of, patterns_of}
use Rattle.schemars_readable.proofs.expressions.patterns_in.Given as goal

abbrev pub invariant-loop-schema : goal.invariant-loop-schema
invariant-loop-schema l = asked_of l.asked.items ++ patterns_of (standing (drop l.schema-index l.schemas)) ≡ patterns_of (standing l.schemas)
