-- The members that are left decide.
use Rattle.std.proofs.Common.{◌≡◌}
use Rattle.schemars_validate.proofs.Words.{members_view, are_named_schemas}
use Rattle.schemars_validate.proofs.found.are_named_schemas.Given as goal

abbrev pub invariant-loop-value : goal.invariant-loop-value
invariant-loop-value l =
    are_named_schemas (members_view l.value-iterator) ≡ are_named_schemas (members_view l.members.entries)
