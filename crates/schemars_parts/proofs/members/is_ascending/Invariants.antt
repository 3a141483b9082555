-- Where the members from the last one on are sorted, all are.
use Rattle.std.proofs.Common.{◌-◌, drop}
use Rattle.schemars_parts.proofs.Words.{IsSorted, members_assembled}
use Rattle.schemars_parts.proofs.members.is_ascending.Given as goal

abbrev pub invariant-loop-next : goal.invariant-loop-next
invariant-loop-next l = IsSorted (members_assembled (drop (l.next - 1) l.members.items)) → IsSorted (members_assembled l.members.items)
