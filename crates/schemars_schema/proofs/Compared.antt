-- A whole number against a float, exactly: the float's whole part tells, since a float of 2^53 or more has no fraction.
use Rattle.std.proofs.Common.{◌≡◌, ℕ, zero, suc, ◌*◌, ◌/◌, ◌%◌, ◌^◌, ◌<◌, ◌≤◌, ℤ, pos, negsuc, Bool, true, false, T, refl, sym, ap, ◌∙◌, arith, true≢false, div-add-mod', nat_eq, div-le_self, mul-pos, div-lt_iff_lt-mul, mul-div_cancel, unsigned_abs}
use Rattle.schemars_schema.proofs.Words.{nat_tests, Float, nan, inf, fin, binary64, two_to, minus_one, eq, T_from_true, HasValue, round_whole, down_pos, Some, None, is_some, int_eq, Num, unsigned, negative, float, as_integer, as_u64, as_i64, is_float, to_float, num_of, is_valid, of_whole, value_of, number_eq}
use Rattle.std.specs.Float.Ieee
use lib.Ieee.{up, down}
use Rattle.serde_json.specs.declared.number.N.{N}
use Rattle.serde_json.specs.declared.number.N.TheVariants.{PosInt, NegInt}
use Rattle.serde_json.specs.declared.number.N.TheVariants as the
use Rattle.schemars_schema.proofs.ByValue.{eq-left, eq_sym, eq_whole, some_same, none_some}

pub middle_is : Ieee.of_bits binary64 4845873199050653696 ≡ two_to 53
unfolding Ieee.of_bits
middle_is = refl

pub top_is : Ieee.of_bits binary64 4895412794951729152 ≡ two_to 64
unfolding Ieee.of_bits
top_is = refl

same_value : (x : Float) (n : ℕ) → HasValue x false n 1 → T (Ieee.eq x (fin false n (pos 0)))
unfolding Ieee.eq
same_value nan n h = absurd h
same_value (inf t) n h = absurd h
same_value (fin true m e) n h = absurd (true≢false h.0)
same_value (fin false m e) n h = T_from_true _ (grind (arith, nat_tests, h.1))

-- up to 2 ^ 53 the conversion to a float loses nothing
pub small : (n : ℕ) (x : Float) → n ≤ 2 ^ 53 → Ieee.eq (Ieee.of_int binary64 (pos n)) x ≡ Ieee.eq (fin false n (pos 0)) x
unfolding Ieee.of_int
small n x most = eq-left _ _ x (same_value _ n (round_whole binary64 false n most))

some : (n : ℕ) → 2 ^ 53 < n → 0 < n
some n big = omega arith

pub below_middle : (n : ℕ) (x : Float) → 2 ^ 53 < n → Ieee.lt x (two_to 53) ≡ true → false ≡ Ieee.eq (fin false n (pos 0)) x
unfolding Ieee.lt Ieee.eq
below_middle n nan big h = refl
below_middle n (inf true) big h = refl
below_middle n (inf false) big h = refl
below_middle n (fin true m e) big h = grind (arith, nat_tests, mul-pos (some n big) (down_pos e))
below_middle n (fin false m e) big h = grind (arith, nat_tests, Rattle.std.proofs.Common.mul-le-mul_right (down e) big)

pub from_top : (n : ℕ) (x : Float) → n < 2 ^ 64 → Ieee.lt x (two_to 64) ≡ false → false ≡ Ieee.eq (fin false n (pos 0)) x
unfolding Ieee.lt Ieee.eq
from_top n nan most h = refl
from_top n (inf true) most h = refl
from_top n (inf false) most h = refl
from_top n (fin true m e) most h = absurd (true≢false (sym (sym h ∙ grind (arith, nat_tests, down_pos e))))
from_top n (fin false m e) most h = grind (arith, nat_tests, Rattle.std.proofs.Common.mul-le-mul_right (down e) most, down_pos e)

-- a float whose whole part is above 2 ^ 53 has no fraction
no_fraction : (m : ℕ) (e : ℤ) → Ieee.fits binary64 (fin false m e) ≡ true → 2 ^ 53 < m * up e / down e → m * up e % down e ≡ 0
unfolding Ieee.fits
no_fraction m (pos e) f big = omega arith
no_fraction zero (negsuc e) f big = absurd (omega (arith, div-le_self (0 * 1) (2 ^ suc e)))
no_fraction (suc m) (negsuc e) f big =
    let digits : suc m < 2 ^ 53 = grind (arith, nat_tests) in
    absurd (omega (arith, div-le_self (suc m * 1) (2 ^ suc e)))

-- k against the fraction a / d, by its whole part, where a whole part of k's size has no fraction beside it
by_whole_part : (k a d : ℕ) → 0 < d → (a / d ≡ k → a % d ≡ 0) → nat_eq (a / d) k ≡ nat_eq (k * d) a
by_whole_part k a d p whole =
    let parts = div-add-mod' a d in
    same (nat_eq (a / d) k) (nat_eq (k * d) a)
    (λ h. let e : a / d ≡ k = grind (arith, nat_tests) in
    let none = whole e in
    let f : k * d ≡ a = ap (λ (x : ℕ). x * d) (sym e) ∙ omega arith in
    grind (arith, nat_tests))
    (λ h. let e : k * d ≡ a = grind (arith, nat_tests) in
    let f : a / d ≡ k = ap (λ (x : ℕ). x / d) (sym e) ∙ mul-div_cancel k p in
    grind (arith, nat_tests))
  where
    same : (a b : Bool) → (a ≡ true → b ≡ true) → (b ≡ true → a ≡ true) → a ≡ b
    same true b f g = sym (f refl)
    same false true f g = g refl
    same false false f g = refl

pub middle : (n : ℕ) (x : Float) → 2 ^ 53 < n → Ieee.fits binary64 x ≡ true → Ieee.lt x (two_to 53) ≡ false → Ieee.lt x (two_to 64) ≡ true
    → nat_eq (Ieee.to_unsigned 64 x) n ≡ Ieee.eq (fin false n (pos 0)) x
unfolding Ieee.lt Ieee.eq Ieee.to_unsigned
middle n nan big f low high = absurd (true≢false (sym high))
middle n (inf true) big f low high = absurd (true≢false low)
middle n (inf false) big f low high = absurd (true≢false (sym high))
middle n (fin true m e) big f low high = grind (arith, nat_tests, mul-pos (some n big) (down_pos e))
middle n (fin false m e) big f low high =
    let a = m * up e in
    let below : a < 2 ^ 64 * down e = grind (arith, nat_tests) in
    let whole : a / down e < 2 ^ 64 = (div-lt_iff_lt-mul {x = a} {y = 2 ^ 64} (down_pos e)).1 below in
    let tests = by_whole_part n a (down e) (down_pos e) (λ same. no_fraction m e f (omega arith)) in
    grind (arith, nat_tests, tests)

pub above_minus_one : (x : Float) → Ieee.lt x (two_to 53) ≡ false → Ieee.lt x (two_to 64) ≡ true → T (Ieee.lt minus_one x)
unfolding Ieee.lt
above_minus_one nan low high = absurd (true≢false (sym high))
above_minus_one (inf true) low high = absurd (true≢false low)
above_minus_one (inf false) low high = tt
above_minus_one (fin true m e) low high = T_from_true _ (grind (arith, nat_tests, down_pos e))
above_minus_one (fin false m e) low high = T_from_true _ (grind (arith, nat_tests, down_pos e))

pub value_integer : (n : Num) (z : ℤ) → as_integer n ≡ Some z → value_of n ≡ of_whole z
value_integer (unsigned n) z h = ap of_whole (some_same h)
value_integer (negative y) z h = ap of_whole (some_same h)
value_integer (float x) z h = none_some h

pub whole_equal : (m n : Num) (y z : ℤ) → as_integer m ≡ Some y → as_integer n ≡ Some z → int_eq y z ≡ number_eq m n
whole_equal m n y z h k = sym (eq_whole y z) ∙ (ap (λ (x : Float). Ieee.eq x (of_whole z)) (sym (value_integer m y h))
    ∙ ap (λ (x : Float). Ieee.eq (value_of m) x) (sym (value_integer n z k)))

pub integer_there : (n : Num) → is_float n ≡ false → is_some (as_integer n) ≡ true
integer_there (unsigned n) h = refl
integer_there (negative z) h = refl
integer_there (float x) h = absurd (true≢false h)

below_suc : (k : ℕ) → 0 < suc k
below_suc k = omega arith

pub negated : (k : ℕ) (x : Float) → Ieee.eq (fin false (suc k) (pos 0)) (Ieee.neg x) ≡ Ieee.eq (fin true (suc k) (pos 0)) x
unfolding Ieee.eq Ieee.neg
negated k nan = refl
negated k (inf s) = refl
negated k (fin true m e) = grind (arith, nat_tests)
negated k (fin false m e) = grind (arith, nat_tests, mul-pos (below_suc k) (down_pos e))

pub float_side : (m n : Num) (x : Float) → is_float m ≡ true → to_float m ≡ x → Ieee.eq (value_of n) x ≡ number_eq m n
float_side (float y) n x h k = ap (λ (w : Float). Ieee.eq (value_of n) w) (sym k) ∙ eq_sym (value_of n) y
float_side (unsigned k) n x h e = absurd (true≢false (sym h))
float_side (negative z) n x h e = absurd (true≢false (sym h))

pub negative_side : (a : N) (z : ℤ) (n : ℕ) (x : Float) → is_valid a ≡ true → as_u64 (num_of a) ≡ None → as_i64 (num_of a) ≡ Some z
    → n ≡ unsigned_abs z → Ieee.eq (of_whole (pos n)) (Ieee.neg x) ≡ Ieee.eq (value_of (num_of a)) x
negative_side (PosInt m) z n x valid none some is = none_some (sym none)
negative_side (the.Float y) z n x valid none some is = none_some some
negative_side (NegInt (pos k)) z n x valid none some is = absurd (true≢false (sym valid ∙ grind (arith, nat_tests)))
negative_side (NegInt (negsuc k)) z n x valid none some is =
    let e : n ≡ suc k = is ∙ ap unsigned_abs (sym (some_same some)) in
    ap (λ (m : ℕ). Ieee.eq (fin false m (pos 0)) (Ieee.neg x)) e ∙ negated k x
