-- The members so far have the name of the last one.
use Rattle.std.proofs.Common.{◌≡◌, true, take}
use Rattle.schemagen_json.proofs.Words.{list_all, bytes_eq}
use Rattle.schemagen_json.proofs.Members.{Member}
use Rattle.schemagen_json.proofs.borrowed_value.members.lone_member.Given as goal

abbrev pub invariant-loop-other : goal.invariant-loop-other
invariant-loop-other l = list_all (λ (m : Member). bytes_eq m.0.now l.name.now) (take l.other-index l.other-items) ≡ true
