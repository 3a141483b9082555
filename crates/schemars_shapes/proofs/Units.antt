-- A map as the program holds it, and whether it has members.
use Rattle.std.proofs.Common.{◌≡◌, List, [], ◌∷◌, length, Bool, true, false, refl, arith, IsTrue}
use Rattle.schemars_shapes.proofs.Words.{members_view, Entry, is_none}

pub none_view : (b : Bool) (es : List Entry) → (IsTrue b → length es ≡ 0) × (length es ≡ 0 → IsTrue b) → b ≡ is_none (members_view es)
none_view b [] h = h.1 refl
none_view true (e ∷ es) h = absurd (omega (arith, h.0 refl))
none_view false (e ∷ es) h = refl
