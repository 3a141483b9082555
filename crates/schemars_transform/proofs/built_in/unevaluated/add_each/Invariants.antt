use Rattle.std.proofs.Common.{◌≡◌}
use Rattle.schemars_transform.proofs.Words.{members_view, keys, with_names}
use Rattle.schemars_transform.proofs.built_in.unevaluated.add_each.Given as goal

abbrev pub invariant-loop-key : goal.invariant-loop-key
invariant-loop-key l = with_names (keys (members_view l.key-iterator)) (members_view l.names.entries)
    ≡ with_names (keys (members_view l.members.entries)) (members_view l.fn.names.entries)
