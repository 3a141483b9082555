-- The keywords that are left decide.
use Rattle.std.proofs.Common.{◌≡◌}
use Rattle.schemars_validate.proofs.Words.{members_view}
use Rattle.schemars_validate.specs.Chains.{has_no_other}
use Rattle.schemars_validate.proofs.chains.has_no_other.Given as goal

abbrev pub invariant-loop-keyword : goal.invariant-loop-keyword
invariant-loop-keyword l = has_no_other (members_view l.keyword-iterator) ≡ has_no_other (members_view l.keywords.entries)
