-- What has been put in, and then the rest, is all.
use Rattle.std.proofs.Common.{◌≡◌}
use Rattle.schemars_parts.proofs.Words.{members_view, put_members}
use Rattle.schemars_parts.proofs.members.MemberList.put_values.Given as goal

abbrev pub invariant-loop-name : goal.invariant-loop-name
invariant-loop-name l = put_members (members_view l.name-iterator) l.self ≡ put_members (members_view l.values.entries) l.fn.self
