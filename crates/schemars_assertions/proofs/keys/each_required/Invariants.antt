-- What is said so far, with what the lists that are left say.
use Rattle.std.proofs.Common.{◌≡◌, Some}
use Rattle.schemars_assertions.proofs.Words.{view, members_view, get_member, both, where_some, each_member, required_says, meant}
use Rattle.schemars_assertions.proofs.keys.each_required.Given as goal

abbrev pub invariant-loop-key : goal.invariant-loop-key
invariant-loop-key l =
    both (meant l.says) (each_member (λ k names. where_some (get_member k (members_view l.members.entries))
    (λ w. required_says (Some names) (view l.value))) (members_view l.key-iterator))
    ≡ each_member (λ k names. where_some (get_member k (members_view l.members.entries)) (λ w. required_says (Some names) (view l.value)))
    (members_view l.lists.entries)
