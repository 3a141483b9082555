-- How many rows a table has, of which each is one of those that are known.
use Rattle.std.proofs.Common.{◌≡◌, ◌⊎◌, ◌<◌, ◌≤◌, ◌+◌, ℕ, zero, suc, List, [], ◌∷◌, length, map, Bool, true, false, Some, refl, ap, ◌∙◌, subst, arith}
use Rattle.test_callers.proofs.Words.{slice_get, nat_lt, AllByRecursion, IsDistinct, position_from, bytes_eq, nat_tests, bytes_eq-Decides, Text, Row, HasDistinctIds, place_of}

-- ---- numbers below a bound

pub count_one : (len n : ℕ) → n < len → ((k : ℕ) → k < len → k ≡ n) → len ≡ 1
count_one len n below each = by (nat_lt 1 len) refl
  where
    by : (t : Bool) → nat_lt 1 len ≡ t → len ≡ 1
    by true more =
        let above : 1 < len = grind (arith, nat_tests) in
        let zero_is : 0 ≡ n = each 0 (omega arith) in
        let one_is : 1 ≡ n = each 1 (omega arith) in
        omega arith
    by false less = let most : len ≤ 1 = grind (arith, nat_tests) in omega arith

pub count_two : (len n m : ℕ) → n < len → m < len → (n ≡ m → ⊥) → ((k : ℕ) → k < len → (k ≡ n) ⊎ (k ≡ m)) → len ≡ 2
count_two len n m n_below m_below apart each = by (nat_lt 2 len) refl
  where
    never : (0 ≡ n) ⊎ (0 ≡ m) → (1 ≡ n) ⊎ (1 ≡ m) → (2 ≡ n) ⊎ (2 ≡ m) → ⊥
    never x y z = omega arith

    by : (t : Bool) → nat_lt 2 len ≡ t → len ≡ 2
    by true more =
        let above : 2 < len = grind (arith, nat_tests) in
        absurd (never (each 0 (omega arith)) (each 1 (omega arith)) (each 2 (omega arith)))
    by false less = let most : len ≤ 2 = grind (arith, nat_tests) in omega arith

pub count_three : (len n a b : ℕ) → n < len → a < len → b < len → (n ≡ a → ⊥) → (n ≡ b → ⊥) → (a ≡ b → ⊥)
    → ((k : ℕ) → k < len → (k ≡ n) ⊎ ((k ≡ a) ⊎ (k ≡ b))) → len ≡ 3
count_three len n a b n_below a_below b_below na nb ab each = by (nat_lt 3 len) refl
  where
    never : (0 ≡ n) ⊎ ((0 ≡ a) ⊎ (0 ≡ b)) → (1 ≡ n) ⊎ ((1 ≡ a) ⊎ (1 ≡ b)) → (2 ≡ n) ⊎ ((2 ≡ a) ⊎ (2 ≡ b))
        → (3 ≡ n) ⊎ ((3 ≡ a) ⊎ (3 ≡ b)) → ⊥
    never w x y z = omega arith

    by : (t : Bool) → nat_lt 3 len ≡ t → len ≡ 3
    by true more =
        let above : 3 < len = grind (arith, nat_tests) in
        absurd (never (each 0 (omega arith)) (each 1 (omega arith)) (each 2 (omega arith)) (each 3 (omega arith)))
    by false less = let most : len ≤ 3 = grind (arith, nat_tests) in omega arith

-- ---- where a row is, if no two have one id

others : (p : Text → Type 0) (rows : List Row) (k : ℕ) (r : Row) → AllByRecursion p (map (λ q. q.id) rows)
    → slice_get rows k ≡ Some r → p r.id
others p [] k r all is = cc
others p (q ∷ rows) zero r all is = let same : q ≡ r = cc in subst (λ (x : Row). p x.id) same all.0
others p (q ∷ rows) (suc k) r all is = others p rows k r all.1 is

place_from : (rows : List Row) (i k : ℕ) (r : Row) → IsDistinct bytes_eq (map (λ q. q.id) rows) → slice_get rows k ≡ Some r
    → position_from (λ q. bytes_eq q.id r.id) i rows ≡ Some (i + k)
unfolding IsDistinct
place_from [] i k r distinct is = cc
place_from (q ∷ rows) i zero r distinct is =
    let same : q ≡ r = cc in
    let equal : bytes_eq q.id r.id ≡ true = (bytes_eq-Decides q.id r.id).1 (ap (λ (x : Row). x.id) same) in
    rw equal (ap Some (omega arith))
place_from (q ∷ rows) i (suc k) r distinct is =
    let apart : bytes_eq q.id r.id ≡ false = others (λ y. bytes_eq q.id y ≡ false) rows k r distinct.0 is in
    rw apart (place_from rows (i + 1) k r distinct.1 is ∙ ap Some (omega arith))

pub place_of_row : (rows : List Row) (k : ℕ) (r : Row) → HasDistinctIds rows → slice_get rows k ≡ Some r → place_of r.id rows ≡ Some k
place_of_row rows k r distinct is = place_from rows 0 k r distinct is ∙ ap Some (omega arith)

pub row_below : (rows : List Row) (k : ℕ) → k < length rows → (r : Row) × (slice_get rows k ≡ Some r)
row_below [] k below = let never : ⊥ = omega (arith, below) in absurd never
row_below (r ∷ rows) zero below = (r, refl)
row_below (r ∷ rows) (suc k) below = row_below rows k (omega (arith, below))
