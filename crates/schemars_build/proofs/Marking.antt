-- Whether a row is pending, by its mark.
use Rattle.std.proofs.Common.{◌≡◌, ◌++◌, ◌∷◌, [], ◌∙◌, ℕ, List, Bool, true, false, Some, None, inl, inr, refl, sym, ap, subst, arith, length, slice_get, true≢false}
use Rattle.schemars_build.proofs.Words.{◌⊎◌, nat_eq, nat_tests, is_pending, same_Some, AreMarked}
use Rattle.schemars_build.proofs.Elements.{last_or_before, never_among, place_of_any}

equal_numbers : (m n : ℕ) → nat_eq m n ≡ true → m ≡ n
equal_numbers m n is = grind (arith, nat_tests)

itself : (n : ℕ) → nat_eq n n ≡ true
itself n = grind (arith, nat_tests)

-- ---- look-ups

pending_at : (rows : List ℕ) (i n : ℕ) → slice_get rows i ≡ Some n → is_pending rows n ≡ true
pending_at rows i n at = by (is_pending rows n) refl
  where
    by : (b : Bool) → is_pending rows n ≡ b → is_pending rows n ≡ true
    by true is = is
    by false is = absurd (never_among (nat_eq n) rows i n is at (itself n))

module _ (rows marks : List ℕ) (n : ℕ) (h : AreMarked rows marks) where
  -- a row that is pending is at its mark
  marked_there : is_pending rows n ≡ true → (i : ℕ) × (slice_get marks n ≡ Some i) × (slice_get rows i ≡ Some n)
  marked_there is =
      let found = place_of_any (nat_eq n) rows is in
      let at : slice_get rows found.0 ≡ Some n = found.2 ∙ ap Some (sym (equal_numbers n found.1 found.3)) in
      (found.0, h found.0 n at, at)

  absent : (is_pending rows n ≡ true → ⊥) → is_pending rows n ≡ false
  absent never = by (is_pending rows n) refl
    where
      by : (b : Bool) → is_pending rows n ≡ b → is_pending rows n ≡ false
      by true is = absurd (never is)
      by false is = is

  pub not_marked : slice_get marks n ≡ None → is_pending rows n ≡ false
  not_marked none = absent (λ is. let there = marked_there is in let at : slice_get marks n ≡ Some there.0 = there.1 in cc)

  module _ (i : ℕ) (says : slice_get marks n ≡ Some i) where
    stands : is_pending rows n ≡ true → slice_get rows i ≡ Some n
    stands is =
        let there = marked_there is in
        let same : there.0 ≡ i = same_Some there.0 i (sym there.1 ∙ says) in
        subst (λ j. slice_get rows j ≡ Some n) same there.2

    pub marked_past : slice_get rows i ≡ None → is_pending rows n ≡ false
    marked_past none = absent (λ is. let at = stands is in cc)

    pub marked_by : (m : ℕ) → slice_get rows i ≡ Some m → nat_eq m n ≡ is_pending rows n
    marked_by m at = by (nat_eq m n) refl
      where
        by : (b : Bool) → nat_eq m n ≡ b → nat_eq m n ≡ is_pending rows n
        by true is =
            let same : m ≡ n = equal_numbers m n is in
            is ∙ sym (pending_at rows i n (at ∙ ap Some same))
        by false is = is ∙ sym (absent (λ there.
            let same : m ≡ n = same_Some m n (sym at ∙ stands there) in
            true≢false (sym (itself n) ∙ (ap (λ k. nat_eq k n) (sym same) ∙ is))))

-- ---- as a row is entered

pub marked_push : (rows old new : List ℕ) (n : ℕ) → AreMarked rows old → is_pending rows n ≡ false
    → slice_get new n ≡ Some (length rows)
    → ((m : ℕ) → (n ≡ m → ⊥) → slice_get new m ≡ slice_get old m) → AreMarked (rows ++ n ∷ []) new
marked_push rows old new n h none here others i m at = by (last_or_before rows n i m at)
  where
    by : (slice_get rows i ≡ Some m) ⊎ ((i ≡ length rows) × (m ≡ n)) → slice_get new m ≡ Some i
    by (inl before) = others m (λ same. never_among (nat_eq n) rows i m none before
        (ap (nat_eq n) (sym same) ∙ itself n)) ∙ h i m before
    by (inr last) = ap (slice_get new) last.1 ∙ (here ∙ ap Some (sym last.0))
