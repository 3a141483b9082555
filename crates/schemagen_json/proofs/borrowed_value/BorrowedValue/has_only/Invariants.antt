-- The names so far are listed.
use Rattle.std.proofs.Common.{◌≡◌, map, drop}
use Rattle.schemagen_json.proofs.Words.{list_all, is_listed}
use Rattle.schemagen_json.proofs.Members.{Member}
use Rattle.schemagen_json.proofs.borrowed_value.BorrowedValue.has_only.Given as goal

abbrev pub invariant-loop-name : goal.invariant-loop-name
invariant-loop-name l =
    list_all (λ (m : Member). is_listed m.0.now (map (λ n. n.now) l.names)) (drop l.name-index l.name-items)
    ≡ list_all (λ (m : Member). is_listed m.0.now (map (λ n. n.now) l.names)) l.name-items
