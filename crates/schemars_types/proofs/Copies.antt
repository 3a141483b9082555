-- Rows that are copied one by one say the same.
use Rattle.std.proofs.Common.{◌≡◌, List, [], ◌∷◌, map, String, string_bytes, refl}
use Rattle.schemars_types.proofs.Words.{AllZip, row_of, SameSlot}
use Rattle.std.specs.declared.alloc.Global.{Global}
use Rattle.schemars_types.specs.declared.table.slots.Slot.{Slot}

pub map-row_of-copied : (es fs : List (String Global × Slot)) → AllZip (λ p q. (string_bytes q.0 ≡ string_bytes p.0) × SameSlot p.1 q.1)
    es fs → map row_of fs ≡ map row_of es
map-row_of-copied [] [] h = refl
map-row_of-copied (e ∷ es) (f ∷ fs) h = λ i. (record { id = h.0.0 i; name = h.0.1.0 i; entry = h.0.1.1 i }) ∷ map-row_of-copied es fs h.1 i
map-row_of-copied [] (f ∷ fs) h = absurd h
map-row_of-copied (e ∷ es) [] h = absurd h
