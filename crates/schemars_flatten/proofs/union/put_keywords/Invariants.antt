-- What is still to be put in gives, with the members so far, what the whole gives with the members at the start.
use Rattle.std.proofs.Common.{◌≡◌}
use Rattle.schemars_flatten.proofs.Words.{members_view, with_keywords}
use Rattle.schemars_flatten.proofs.union.put_keywords.Given as goal

abbrev pub invariant-loop-key : goal.invariant-loop-key
invariant-loop-key l = with_keywords (members_view l.key-iterator) (members_view l.members.entries)
    ≡ with_keywords (members_view l.fn.others.entries) (members_view l.fn.members.entries)
