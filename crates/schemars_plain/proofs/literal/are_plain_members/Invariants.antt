-- The members that are left decide, and stand in order.
use Rattle.schemars_plain.proofs.Words.{◌↔◌, members_view, ArePlainMembers, IsSorted}
use Rattle.schemars_plain.proofs.literal.are_plain_members.Given as goal

abbrev pub invariant-loop-key : goal.invariant-loop-key
invariant-loop-key l = record {
  sorted : IsSorted (members_view l.key-iterator);
  decide : ArePlainMembers (members_view l.key-iterator) ↔ ArePlainMembers (members_view l.initial.key-iterator);
}
