-- The meaning row by row.
use Rattle.std.proofs.Common.{◌≡◌, ℕ, suc, List, [], ◌++◌, Option, Some, None, Bool, false, refl, sym, ap, ◌∙◌, append-nil}
use Rattle.schemars_belonging.proofs.Words.{Data, Result, Ok, Err, IfOk, Text, Entry, entry_at, expanded_shape_in, VariantMatch, shape_choices, belongs_within, choices_within, Asked, has, offers, has_shape_of, shape_claims, claims}

module _ (a : Asked) (n : ℕ) (v : Data) where
  abbrev has_of : ℕ → Option Entry → Bool
  has_of steps o = elim o [ None ↦ false | Some e ↦ has_shape_of a steps e.shape v ]

  has_next : (steps : ℕ) → has a (suc steps) n v ≡ has_of steps (entry_at a.rows n)
  unfolding belongs_within
  has_next steps = refl

  pub has_none : has a 0 n v ≡ false
  unfolding belongs_within
  has_none = refl

  pub has_row : (steps below : ℕ) (e : Entry) → suc below ≡ steps → Some e ≡ entry_at a.rows n
      → has a steps n v ≡ has_shape_of a below e.shape v
  has_row steps below e one is = ap (λ k. has a k n v) (sym one) ∙ (has_next below ∙ ap (has_of below) (sym is))

  pub has_no_row : (steps below : ℕ) → suc below ≡ steps → None ≡ entry_at a.rows n → has a steps n v ≡ false
  has_no_row steps below one is = ap (λ k. has a k n v) (sym one) ∙ (has_next below ∙ ap (has_of below) (sym is))

  abbrev offers_of : ℕ → Option Entry → List VariantMatch
  offers_of steps o = elim o [
    | None ↦ []
    | Some e ↦ shape_choices a.contract (has a steps) (offers a steps) (expanded_shape_in a.rows e.shape) v
  ]

  offers_next : (steps : ℕ) → offers a (suc steps) n v ≡ offers_of steps (entry_at a.rows n)
  unfolding choices_within
  offers_next steps = refl

  pub offers_none : offers a 0 n v ≡ []
  unfolding choices_within
  offers_none = refl

  pub offers_row : (steps below : ℕ) (e : Entry) → suc below ≡ steps → Some e ≡ entry_at a.rows n
      → offers a steps n v ≡ shape_choices a.contract (has a below) (offers a below) (expanded_shape_in a.rows e.shape) v
  offers_row steps below e one is = ap (λ k. offers a k n v) (sym one) ∙ (offers_next below ∙ ap (offers_of below) (sym is))

  pub offers_no_row : (steps below : ℕ) → suc below ≡ steps → None ≡ entry_at a.rows n → offers a steps n v ≡ []
  offers_no_row steps below one is = ap (λ k. offers a k n v) (sym one) ∙ (offers_next below ∙ ap (offers_of below) (sym is))

  abbrev claims_of : ℕ → Option Entry → List Text
  claims_of steps o = elim o [ None ↦ [] | Some e ↦ shape_claims a steps (expanded_shape_in a.rows e.shape) v ]

  pub claims_row : (steps below : ℕ) (e : Entry) → suc below ≡ steps → Some e ≡ entry_at a.rows n
      → claims a steps n v ≡ shape_claims a below (expanded_shape_in a.rows e.shape) v
  claims_row steps below e one is = ap (λ k. claims a k n v) (sym one) ∙ ap (claims_of below) (sym is)

  pub claims_no_row : (steps below : ℕ) → suc below ≡ steps → None ≡ entry_at a.rows n → claims a steps n v ≡ []
  claims_no_row steps below one is = ap (λ k. claims a k n v) (sym one) ∙ ap (claims_of below) (sym is)

-- nothing is added
pub adds_nothing : (found more : List Text) → more ≡ [] → found ≡ found ++ more
adds_nothing found more none = sym (ap (λ ts. found ++ ts) none ∙ append-nil found)

-- the same answer
pub answered : {E : Type 0} (r : Result Bool E) (x y : Bool) → x ≡ y → IfOk r (λ is. is ≡ x) → IfOk r (λ is. is ≡ y)
answered (Ok b) x y same h = h ∙ same
answered (Err e) x y same h = tt
