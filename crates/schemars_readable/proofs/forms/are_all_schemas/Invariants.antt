-- The members that are left decide.
use Rattle.std.proofs.Common.{◌≡◌}
use Rattle.schemars_readable.specs.Words.{members_view, each_member, is_schema_in}
use Rattle.schemars_readable.proofs.forms.are_all_schemas.Given as goal

abbrev pub invariant-loop-member : goal.invariant-loop-member
invariant-loop-member l = each_member (is_schema_in l.draft) (members_view l.member-iterator) ≡ each_member (is_schema_in l.draft) (members_view l.members.entries)
