-- The schemas so far, and those of the keys that are left.
use Rattle.std.proofs.Common.{◌≡◌, ◌++◌, map, drop}
use Rattle.schemars_documents.proofs.Words.{values_of, property_view}
use Rattle.schemars_documents.proofs.shape.keyed.values_at.Given as goal

abbrev pub invariant-loop-key : goal.invariant-loop-key
invariant-loop-key l =
    map property_view l.values.items ++ values_of l.value (map (λ t. t.now) (drop l.key-index l.keys))
    ≡ values_of l.value (map (λ t. t.now) l.keys)
