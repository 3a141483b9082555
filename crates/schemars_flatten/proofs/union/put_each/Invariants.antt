-- What is still to be put in gives, with the members so far, what the whole gives with the members at the start.
use Rattle.std.proofs.Common.{◌≡◌}
use Rattle.schemars_flatten.proofs.Words.{members_view, put_members}
use Rattle.schemars_flatten.proofs.union.put_each.Given as goal

abbrev pub invariant-loop-name : goal.invariant-loop-name
invariant-loop-name l = put_members (members_view l.name-iterator) (members_view l.members.entries)
    ≡ put_members (members_view l.fn.more.entries) (members_view l.fn.members.entries)
