-- What is still to be put in gives, with the members so far, what the whole gives with the members at the start.
use Rattle.std.proofs.Common.{◌≡◌}
use Rattle.schemars_schema.proofs.Words.{members_view, put_members}
use Rattle.schemars_schema.proofs.schema.placing.put_members.Given as goal

abbrev pub invariant-loop-key : goal.invariant-loop-key
invariant-loop-key l = put_members (members_view l.key-iterator) (members_view l.into.entries)
    ≡ put_members (members_view l.fn.members.entries) (members_view l.fn.into.entries)
