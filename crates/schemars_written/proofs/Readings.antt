-- There are readings that take decimal digits for what they are.
use Rattle.std.proofs.Common.{◌≡◌, ◌⊎◌, inl, inr, ℕ, zero, suc, ◌<◌, ◌^◌, ℤ, pos, negsuc, [], ◌∷◌, ◌++◌, true, false, Bool, ◌&&◌, ◌||◌, decimal, refl, sym, ap, ◌∙◌, arith}
use Rattle.schemars_written.proofs.Words.{bytes_eq, signed_decimal, eq-or-lt_of_le, bytes_eq-Decides, Text, Patterns, matches, pattern_of, IsWithin64, TakesWholeNumbers}
use Rattle.schemars_shapes.specs.declared.shape.IntegerKeys.TheVariants.{Unsigned, Signed}

right_true : (a b : Bool) → b ≡ true → (a || b) ≡ true
right_true true b h = refl
right_true false b h = h

in_left : (ps qs : Patterns) (p t : Text) → matches ps p t ≡ true → matches (ps ++ qs) p t ≡ true
in_left [] qs p t h = absurd (cc)
in_left (x ∷ ps) qs p t h = go (bytes_eq x.0 p && bytes_eq x.1 t) h (in_left ps qs p t)
  where
    go : (b : Bool) → (b || matches ps p t) ≡ true → (matches ps p t ≡ true → matches (ps ++ qs) p t ≡ true) →
        (b || matches (ps ++ qs) p t) ≡ true
    go true is later = refl
    go false is later = later is

in_right : (ps qs : Patterns) (p t : Text) → matches qs p t ≡ true → matches (ps ++ qs) p t ≡ true
in_right [] qs p t h = h
in_right (x ∷ ps) qs p t h =
    right_true (bytes_eq x.0 p && bytes_eq x.1 t) (matches (ps ++ qs) p t) (in_right ps qs p t h)

-- what takes the texts of all numbers below n, and that of n
one_more : (p : Text) (text : ℕ → Text) (n : ℕ) → (patterns : Patterns) × ((v : ℕ) → v < n → matches patterns p (text v) ≡ true)
    → (patterns : Patterns) × ((v : ℕ) → v < suc n → matches patterns p (text v) ≡ true)
one_more p text n some = ((p, text n) ∷ some.0, λ v low. each v (eq-or-lt_of_le {n = v} {m = n} (omega arith)))
  where
    here : (v : ℕ) → v ≡ n → (bytes_eq p p && bytes_eq (text n) (text v)) ≡ true
    here v is = ap (λ (b : Bool). b && bytes_eq (text n) (text v)) ((bytes_eq-Decides p p).1 refl)
        ∙ (bytes_eq-Decides (text n) (text v)).1 (ap text (sym is))

    each : (v : ℕ) → (v ≡ n) ⊎ (v < n) → matches ((p, text n) ∷ some.0) p (text v) ≡ true
    each v (inl same) = ap (λ (b : Bool). b || matches some.0 p (text v)) (here v same)
    each v (inr less) = right_true (bytes_eq p p && bytes_eq (text n) (text v)) (matches some.0 p (text v)) (some.1 v less)

below : (p : Text) (text : ℕ → Text) (n : ℕ) → (patterns : Patterns) × ((v : ℕ) → v < n → matches patterns p (text v) ≡ true)
below p text zero = ([], λ v low. absurd (omega arith))
below p text (suc n) = one_more p text n (below p text n)

pub whole_numbers_taken : (patterns : Patterns) × TakesWholeNumbers patterns
whole_numbers_taken = all (below (pattern_of Unsigned) decimal (2 ^ 64)) (below (pattern_of Signed) decimal (2 ^ 64))
    (below (pattern_of Signed) (λ v. signed_decimal (negsuc v)) (2 ^ 63))
  where
    all : (patterns : Patterns) × ((v : ℕ) → v < 2 ^ 64 → matches patterns (pattern_of Unsigned) (decimal v) ≡ true)
        → (patterns : Patterns) × ((v : ℕ) → v < 2 ^ 64 → matches patterns (pattern_of Signed) (decimal v) ≡ true)
        → (patterns : Patterns) × ((v : ℕ) → v < 2 ^ 63 → matches patterns (pattern_of Signed) (signed_decimal (negsuc v)) ≡ true)
        → (patterns : Patterns) × TakesWholeNumbers patterns
    all us vs ws = (
      us.0 ++ (vs.0 ++ ws.0),
      (λ v low. in_left us.0 (vs.0 ++ ws.0) (pattern_of Unsigned) (decimal v) (us.1 v low), signed),
    )
      where
        signed : (z : ℤ) → IsWithin64 z → matches (us.0 ++ (vs.0 ++ ws.0)) (pattern_of Signed) (signed_decimal z) ≡ true
        signed (pos v) low = in_right us.0 (vs.0 ++ ws.0) (pattern_of Signed) (decimal v)
            (in_left vs.0 ws.0 (pattern_of Signed) (decimal v) (vs.1 v low))
        signed (negsuc v) low = in_right us.0 (vs.0 ++ ws.0) (pattern_of Signed) (signed_decimal (negsuc v))
            (in_right vs.0 ws.0 (pattern_of Signed) (signed_decimal (negsuc v)) (ws.1 v low))
