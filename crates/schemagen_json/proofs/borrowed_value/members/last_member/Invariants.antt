-- Behind these members none has the name.
use Rattle.std.proofs.Common.{◌≡◌, ◌≤◌, length, take}
use Rattle.schemagen_json.proofs.Words.{get_member, members_data}
use Rattle.schemagen_json.proofs.borrowed_value.members.last_member.Given as goal

abbrev pub invariant-loop-left : goal.invariant-loop-left
invariant-loop-left l =
    (get_member l.name (members_data l.members) ≡ get_member l.name (members_data (take l.left l.members)))
    × (l.left ≤ length l.members)

abbrev pub decreases-loop-left : goal.decreases-loop-left
decreases-loop-left l = l.left
