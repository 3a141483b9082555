-- Texts that are equal, and lists that hold a text.
use Rattle.std.proofs.Common.{◌≡◌, ◌||◌, List, [], ◌∷◌, suc, Bool, true, false, Contains, refl, sym, arith, true≢false}
use Rattle.schemars_shapes.proofs.Words.{list_any, bytes_eq, bytes_eq-Decides, Text}

pub Contains-from_any : (q : Text) (xs : List Text) → list_any (bytes_eq q) xs ≡ true → Contains xs q
Contains-from_any q [] h = absurd (true≢false (sym h))
Contains-from_any q (x ∷ xs) h = by (bytes_eq q x) refl h (Contains-from_any q xs)
  where
    by : (b : Bool) → bytes_eq q x ≡ b → b || list_any (bytes_eq q) xs ≡ true → (list_any (bytes_eq q) xs ≡ true → Contains xs q)
        → Contains (x ∷ xs) q
    by true e t rest = (0, omega arith, sym ((bytes_eq-Decides q x).0 e))
    by false e t rest = let (k, below, is) = rest t in (suc k, omega arith, is)
