-- The members so far, put into what is left, are the members at the start, put into the whole. Both are sorted.
use Rattle.std.proofs.Common.{◌≡◌}
use Rattle.schemars_flatten.proofs.Words.{members_view, put_members, IsSorted}
use Rattle.schemars_flatten.proofs.union.put_missing.Given as goal

abbrev pub invariant-loop-name : goal.invariant-loop-name
invariant-loop-name l =
    IsSorted (members_view l.members.entries) × IsSorted (members_view l.name-iterator)
    × (put_members (members_view l.members.entries) (members_view l.name-iterator)
    ≡ put_members (members_view l.fn.members.entries) (members_view l.fn.more.entries))
