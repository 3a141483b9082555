-- Elements of lists by their place.
use Rattle.std.proofs.Common.{◌≡◌, ◌++◌, ◌∷◌, [], ◌∙◌, ◌||◌, ℕ, zero, suc, List, Bool, true, false, Some, inl, inr, refl, sym, ap, length, take, slice_get, true≢false}
use Rattle.schemars_build.proofs.Words.{◌⊎◌, list_any}
use Rattle.std.proofs.lemmas.Bool.{or_parts}

pub at_in_take : {A : Type 0} (k : ℕ) (xs : List A) (i : ℕ) (x : A) → slice_get (take k xs) i ≡ Some x → slice_get xs i ≡ Some x
at_in_take zero xs i x at = cc
at_in_take (suc k) [] i x at = at
at_in_take (suc k) (y ∷ xs) zero x at = at
at_in_take (suc k) (y ∷ xs) (suc i) x at = at_in_take k xs i x at

pub last_or_before : {A : Type 0} (xs : List A) (y : A) (i : ℕ) (x : A) → slice_get (xs ++ y ∷ []) i ≡ Some x
    → (slice_get xs i ≡ Some x) ⊎ ((i ≡ length xs) × (x ≡ y))
last_or_before [] y zero x at = inr (refl, cc)
last_or_before [] y (suc i) x at = cc
last_or_before (z ∷ xs) y zero x at = inl at
last_or_before (z ∷ xs) y (suc i) x at = by (last_or_before xs y i x at)
  where
    by : (slice_get xs i ≡ Some x) ⊎ ((i ≡ length xs) × (x ≡ y)) → (slice_get xs i ≡ Some x) ⊎ ((suc i ≡ suc (length xs)) × (x ≡ y))
    by (inl h) = inl h
    by (inr h) = inr (ap suc h.0, h.1)

-- ---- elements that pass a test

pub never_among : {A : Type 0} (P : A → Bool) (xs : List A) (i : ℕ) (x : A) → list_any P xs ≡ false → slice_get xs i ≡ Some x
    → P x ≡ true → ⊥
never_among P [] i x none at is = cc
never_among P (y ∷ xs) zero x none at is =
    let same : y ≡ x = cc in
    true≢false (sym is ∙ (ap P (sym same) ∙ (or_parts (P y) (list_any P xs) none).0))
never_among P (y ∷ xs) (suc i) x none at is = never_among P xs i x (or_parts (P y) (list_any P xs) none).1 at is

pub place_of_any : {A : Type 0} (P : A → Bool) (xs : List A) → list_any P xs ≡ true
    → (i : ℕ) × (x : A) × (slice_get xs i ≡ Some x) × (P x ≡ true)
place_of_any P [] h = absurd (true≢false (sym h))
place_of_any P (y ∷ xs) h = by (P y) refl (place_of_any P xs)
  where
    by : (b : Bool) → P y ≡ b → (list_any P xs ≡ true → (i : ℕ) × (x : _) × (slice_get xs i ≡ Some x) × (P x ≡ true))
        → (i : ℕ) × (x : _) × (slice_get (y ∷ xs) i ≡ Some x) × (P x ≡ true)
    by true is rest = (zero, y, refl, is)
    by false is rest =
        let found = rest (sym (ap (λ b. b || list_any P xs) is) ∙ h) in
        (suc found.0, found.1, found.2, found.3)
