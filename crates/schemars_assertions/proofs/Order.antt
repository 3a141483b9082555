-- A whole number and a float in order, exactly: the float's whole part tells, since a float of 2^53 or more has no fraction.
use Rattle.std.proofs.Common.{◌≡◌, ℕ, zero, suc, ◌*◌, ◌/◌, ◌%◌, ◌^◌, ◌<◌, ◌≤◌, ℤ, pos, negsuc, Bool, true, false, T, refl, sym, ap, ◌∙◌, arith, true≢false, div-add-mod', nat_le, div-le_self, mul-pos, div-lt_iff_lt-mul, min, unsigned_abs}
use Rattle.schemars_assertions.proofs.Words.{nat_tests, Float, nan, inf, fin, binary64, two_to, minus_one, float_is_finite, float_with_sign, eq, le, lt, T_from_true, up, down, HasValue, round_whole, down_pos, ◌-◌, ◌==◌, Some, None, Option, is_some, option_and_then, nat_lt, int_le, if◌then◌else◌, Num, unsigned, negative, float, as_integer, as_u64, as_i64, is_float, to_float, num_of, is_valid, of_whole, value_of, number_le, whole_of, whole_of_float, with_sign, size_of_whole, size_in_64_bits, le-left, le-right, eq-left, le_whole, greatest-whole, some_same, none_some}
use Rattle.std.specs.Float.Ieee
use Rattle.serde_json.specs.declared.number.N.{N}
use Rattle.serde_json.specs.declared.number.N.TheVariants.{PosInt, NegInt}
use Rattle.serde_json.specs.declared.number.N.TheVariants as the

pub middle_is : Ieee.of_bits binary64 4845873199050653696 ≡ two_to 53
unfolding Ieee.of_bits
middle_is = refl

pub top_is : Ieee.of_bits binary64 4895412794951729152 ≡ two_to 64
unfolding Ieee.of_bits
top_is = refl

same_value : (x : Float) (n : ℕ) → HasValue x false n 1 → T (Ieee.eq x (fin false n (pos 0)))
unfolding Ieee.eq
same_value nan n h = absurd h
same_value (inf t) n h = absurd h
same_value (fin true m e) n h = absurd (true≢false h.0)
same_value (fin false m e) n h = T_from_true _ (grind (arith, nat_tests, h.1))

exact : (n : ℕ) → n ≤ 2 ^ 53 → T (Ieee.eq (Ieee.of_int binary64 (pos n)) (fin false n (pos 0)))
unfolding Ieee.of_int
exact n most = same_value _ n (round_whole binary64 false n most)

-- up to 2 ^ 53 the conversion to a float loses nothing
pub small_left : (n : ℕ) (x : Float) → n ≤ 2 ^ 53 → Ieee.le (Ieee.of_int binary64 (pos n)) x ≡ Ieee.le (fin false n (pos 0)) x
small_left n x most = le-left _ _ x (exact n most)

pub small_right : (x : Float) (n : ℕ) → n ≤ 2 ^ 53 → Ieee.le x (Ieee.of_int binary64 (pos n)) ≡ Ieee.le x (fin false n (pos 0))
small_right x n most = le-right x _ _ (exact n most)

some : (n : ℕ) → 2 ^ 53 < n → 0 < n
some n big = omega arith

-- ---- a float below 2 ^ 53, a whole number above

pub not_below : (n : ℕ) (x : Float) → 2 ^ 53 < n → Ieee.lt x (two_to 53) ≡ true → false ≡ Ieee.le (fin false n (pos 0)) x
unfolding Ieee.lt Ieee.eq Ieee.le
not_below n nan big h = refl
not_below n (inf true) big h = refl
not_below n (inf false) big h = absurd (true≢false (sym h))
not_below n (fin true m e) big h = grind (arith, nat_tests, mul-pos (some n big) (down_pos e))
not_below n (fin false m e) big h = grind (arith, nat_tests, Rattle.std.proofs.Common.mul-le-mul_right (down e) big)

pub all_below : (n : ℕ) (x : Float) → 2 ^ 53 < n → Ieee.lt x (two_to 53) ≡ true → true ≡ Ieee.le x (fin false n (pos 0))
unfolding Ieee.lt Ieee.eq Ieee.le
all_below n nan big h = absurd (true≢false (sym h))
all_below n (inf true) big h = refl
all_below n (inf false) big h = absurd (true≢false (sym h))
all_below n (fin true m e) big h = grind (arith, nat_tests, mul-pos (some n big) (down_pos e))
all_below n (fin false m e) big h = grind (arith, nat_tests, Rattle.std.proofs.Common.mul-le-mul_right (down e) big)

-- ---- a float from 2 ^ 64 on, a whole number below

pub from_top : (n : ℕ) (x : Float) → n < 2 ^ 64 → Ieee.lt x (two_to 64) ≡ false → Ieee.le (two_to 64) x ≡ Ieee.le (fin false n (pos 0)) x
unfolding Ieee.lt Ieee.eq Ieee.le
from_top n nan most h = refl
from_top n (inf true) most h = absurd (true≢false h)
from_top n (inf false) most h = refl
from_top n (fin true m e) most h = absurd (true≢false (sym (sym h ∙ grind (arith, nat_tests, down_pos e))))
from_top n (fin false m e) most h = grind (arith, nat_tests, Rattle.std.proofs.Common.mul-le-mul_right (down e) most, down_pos e)

pub not_from_top : (n : ℕ) (x : Float) → n < 2 ^ 64 → Ieee.lt x (two_to 64) ≡ false → false ≡ Ieee.le x (fin false n (pos 0))
unfolding Ieee.lt Ieee.eq Ieee.le
not_from_top n nan most h = refl
not_from_top n (inf true) most h = absurd (true≢false h)
not_from_top n (inf false) most h = refl
not_from_top n (fin true m e) most h = absurd (true≢false (sym (sym h ∙ grind (arith, nat_tests, down_pos e))))
not_from_top n (fin false m e) most h = grind (arith, nat_tests, Rattle.std.proofs.Common.mul-le-mul_right (down e) most, down_pos e)

-- ---- between

-- a float whose whole part is 2 ^ 53 or more has no fraction
no_fraction : (m : ℕ) (e : ℤ) → Ieee.fits binary64 (fin false m e) ≡ true → 2 ^ 53 ≤ m * up e / down e → m * up e % down e ≡ 0
unfolding Ieee.fits
no_fraction m (pos e) f big = omega arith
no_fraction zero (negsuc e) f big = absurd (omega (arith, div-le_self (0 * 1) (2 ^ suc e)))
no_fraction (suc m) (negsuc e) f big =
    let digits : suc m < 2 ^ 53 = grind (arith, nat_tests) in
    absurd (omega (arith, div-le_self (suc m * 1) (2 ^ suc e)))

same : (a b : Bool) → (a ≡ true → b ≡ true) → (b ≡ true → a ≡ true) → a ≡ b
same true b f g = sym (f refl)
same false true f g = g refl
same false false f g = refl

-- k against the fraction a / d
part_above : (k a d : ℕ) → 0 < d → nat_le k (a / d) ≡ nat_le (k * d) a
part_above k a d p =
    let parts = div-add-mod' a d in
    same (nat_le k (a / d)) (nat_le (k * d) a)
    (λ h. let e : k ≤ a / d = grind (arith, nat_tests) in
    grind (arith, nat_tests, Rattle.std.proofs.Common.mul-le-mul_right d e))
    (λ h. let e : k * d ≤ a = grind (arith, nat_tests) in
    let below : (a / d < k) → ⊥ = λ less. omega (arith, (div-lt_iff_lt-mul {x = a} {y = k} p).0 less) in
    grind (arith, nat_tests, below))

part_below : (k a d : ℕ) → 0 < d → a % d ≡ 0 → nat_le (a / d) k ≡ nat_le a (k * d)
part_below k a d p none =
    let parts = div-add-mod' a d in
    same (nat_le (a / d) k) (nat_le a (k * d))
    (λ h. let e : a / d ≤ k = grind (arith, nat_tests) in
    grind (arith, nat_tests, Rattle.std.proofs.Common.mul-le-mul_right d e))
    (λ h. let e : a ≤ k * d = grind (arith, nat_tests) in
    let above : (k < a / d) → ⊥ = λ more. omega (arith, Rattle.std.proofs.Common.mul-le-mul_right d more, p) in
    grind (arith, nat_tests, above))

pub above_minus_one : (x : Float) → Ieee.lt x (two_to 53) ≡ false → Ieee.lt x (two_to 64) ≡ true → T (Ieee.lt minus_one x)
unfolding Ieee.lt
above_minus_one nan low high = absurd (true≢false (sym high))
above_minus_one (inf true) low high = absurd (true≢false low)
above_minus_one (inf false) low high = tt
above_minus_one (fin true m e) low high = T_from_true _ (grind (arith, nat_tests, down_pos e))
above_minus_one (fin false m e) low high = T_from_true _ (grind (arith, nat_tests, down_pos e))

pub part_at_least : (n : ℕ) (x : Float) → 2 ^ 53 < n → Ieee.lt x (two_to 53) ≡ false → Ieee.lt x (two_to 64) ≡ true
    → nat_le n (Ieee.to_unsigned 64 x) ≡ Ieee.le (fin false n (pos 0)) x
unfolding Ieee.lt Ieee.eq Ieee.le Ieee.to_unsigned
part_at_least n nan big low high = absurd (true≢false (sym high))
part_at_least n (inf true) big low high = absurd (true≢false low)
part_at_least n (inf false) big low high = absurd (true≢false (sym high))
part_at_least n (fin true m e) big low high = grind (arith, nat_tests, mul-pos (some n big) (down_pos e))
part_at_least n (fin false m e) big low high =
    let a = m * up e in
    let below : a < 2 ^ 64 * down e = grind (arith, nat_tests) in
    let whole : a / down e < 2 ^ 64 = (div-lt_iff_lt-mul {x = a} {y = 2 ^ 64} (down_pos e)).1 below in
    let tests = part_above n a (down e) (down_pos e) in
    grind (arith, nat_tests, tests)

pub part_at_most : (n : ℕ) (x : Float) → 2 ^ 53 < n → Ieee.fits binary64 x ≡ true → Ieee.lt x (two_to 53) ≡ false
    → Ieee.lt x (two_to 64) ≡ true → nat_le (Ieee.to_unsigned 64 x) n ≡ Ieee.le x (fin false n (pos 0))
unfolding Ieee.lt Ieee.eq Ieee.le Ieee.to_unsigned
part_at_most n nan big f low high = absurd (true≢false (sym high))
part_at_most n (inf true) big f low high = absurd (true≢false low)
part_at_most n (inf false) big f low high = absurd (true≢false (sym high))
part_at_most n (fin true m e) big f low high = absurd (true≢false (sym (sym low ∙ grind (arith, nat_tests, down_pos e))))
part_at_most n (fin false m e) big f low high =
    let a = m * up e in
    let below : a < 2 ^ 64 * down e = grind (arith, nat_tests) in
    let whole : a / down e < 2 ^ 64 = (div-lt_iff_lt-mul {x = a} {y = 2 ^ 64} (down_pos e)).1 below in
    let above : (a / down e < 2 ^ 53) → ⊥ = λ less.
    let less' = (div-lt_iff_lt-mul {x = a} {y = 2 ^ 53} (down_pos e)).0 less in
    true≢false (sym (sym low ∙ grind (arith, nat_tests, less'))) in
    let tests = part_below n a (down e) (down_pos e) (no_fraction m e f (grind (arith, above))) in
    grind (arith, nat_tests, tests)

-- ---- which of the two is a float

pub whole_order : (m n : Num) (y z : ℤ) → as_integer m ≡ Some y → as_integer n ≡ Some z → int_le y z ≡ number_le m n
whole_order m n y z h k =
    sym (le_whole y z) ∙ (ap (λ (x : Float). le x (of_whole z)) (sym (value_integer m y h))
    ∙ ap (λ (x : Float). le (value_of m) x) (sym (value_integer n z k)))
  where
    value_integer : (n : Num) (z : ℤ) → as_integer n ≡ Some z → value_of n ≡ of_whole z
    value_integer (unsigned n) z h = ap of_whole (some_same h)
    value_integer (negative y) z h = ap of_whole (some_same h)
    value_integer (float x) z h = none_some h

pub float_right : (m n : Num) (x : Float) → is_float n ≡ true → to_float n ≡ x → le (value_of m) x ≡ number_le m n
float_right m (float y) x h k = ap (λ (w : Float). le (value_of m) w) (sym k)
float_right m (unsigned k) x h e = absurd (true≢false (sym h))
float_right m (negative z) x h e = absurd (true≢false (sym h))

pub float_left : (m n : Num) (x : Float) → is_float m ≡ true → to_float m ≡ x → le x (value_of n) ≡ number_le m n
float_left (float y) n x h k = ap (λ (w : Float). le w (value_of n)) (sym k)
float_left (unsigned k) n x h e = absurd (true≢false (sym h))
float_left (negative z) n x h e = absurd (true≢false (sym h))

-- ---- below zero

below_suc : (k : ℕ) → 0 < suc k
below_suc k = omega arith

turned_left : (k : ℕ) (x : Float) → Ieee.le (Ieee.neg x) (fin false (suc k) (pos 0)) ≡ Ieee.le (fin true (suc k) (pos 0)) x
unfolding Ieee.eq Ieee.lt Ieee.le Ieee.neg
turned_left k nan = refl
turned_left k (inf true) = refl
turned_left k (inf false) = refl
turned_left k (fin true m e) = grind (arith, nat_tests)
turned_left k (fin false m e) = grind (arith, nat_tests, mul-pos (below_suc k) (down_pos e))

turned_right : (k : ℕ) (x : Float) → Ieee.le (fin false (suc k) (pos 0)) (Ieee.neg x) ≡ Ieee.le x (fin true (suc k) (pos 0))
unfolding Ieee.eq Ieee.lt Ieee.le Ieee.neg
turned_right k nan = refl
turned_right k (inf true) = refl
turned_right k (inf false) = refl
turned_right k (fin true m e) = grind (arith, nat_tests)
turned_right k (fin false m e) = grind (arith, nat_tests, mul-pos (below_suc k) (down_pos e))

pub negative_left : (a : N) (z : ℤ) (n : ℕ) (x : Float) → is_valid a ≡ true → as_u64 (num_of a) ≡ None → as_i64 (num_of a) ≡ Some z
    → n ≡ unsigned_abs z → Ieee.le (Ieee.neg x) (of_whole (pos n)) ≡ Ieee.le (value_of (num_of a)) x
negative_left (PosInt m) z n x valid none some is = none_some (sym none)
negative_left (the.Float y) z n x valid none some is = none_some some
negative_left (NegInt (pos k)) z n x valid none some is = absurd (true≢false (sym valid ∙ grind (arith, nat_tests)))
negative_left (NegInt (negsuc k)) z n x valid none some is =
    let e : n ≡ suc k = is ∙ ap unsigned_abs (sym (some_same some)) in
    ap (λ (m : ℕ). Ieee.le (Ieee.neg x) (fin false m (pos 0))) e ∙ turned_left k x

pub negative_right : (a : N) (z : ℤ) (n : ℕ) (x : Float) → is_valid a ≡ true → as_u64 (num_of a) ≡ None → as_i64 (num_of a) ≡ Some z
    → n ≡ unsigned_abs z → Ieee.le (of_whole (pos n)) (Ieee.neg x) ≡ Ieee.le x (value_of (num_of a))
negative_right (PosInt m) z n x valid none some is = none_some (sym none)
negative_right (the.Float y) z n x valid none some is = none_some some
negative_right (NegInt (pos k)) z n x valid none some is = absurd (true≢false (sym valid ∙ grind (arith, nat_tests)))
negative_right (NegInt (negsuc k)) z n x valid none some is =
    let e : n ≡ suc k = is ∙ ap unsigned_abs (sym (some_same some)) in
    ap (λ (m : ℕ). Ieee.le (fin false m (pos 0)) (Ieee.neg x)) e ∙ turned_right k x

-- ---- fractions

chosen : {A : Type 0} (b : Bool) (a : A) → is_some (if b then Some a else None) ≡ b
chosen true a = refl
chosen false a = refl

-- below 2 ^ 53 the whole part is the number, if it has no fraction
pub small_whole : (x : Float) → Ieee.lt (float_with_sign false x) (two_to 53) ≡ true
    → Ieee.eq (Ieee.of_int binary64 (pos (Ieee.to_unsigned 64 (float_with_sign false x)))) (float_with_sign false x) ≡ is_some (whole_of_float x)
unfolding Ieee.lt Ieee.eq Ieee.to_unsigned float_with_sign
small_whole nan low = absurd (true≢false (sym low))
small_whole (inf s) low = absurd (true≢false (sym low))
small_whole (fin s m e) low =
    let a = m * up e in
    let below : a < 2 ^ 53 * down e = grind (arith, nat_tests) in
    let whole : a / down e < 2 ^ 53 = (div-lt_iff_lt-mul {x = a} {y = 2 ^ 53} (down_pos e)).1 below in
    let part : min (a / down e) (2 ^ 64 - 1) ≡ a / down e = omega arith in
    let parts = div-add-mod' a (down e) in
    ap (λ (n : ℕ). Ieee.eq (Ieee.of_int binary64 (pos n)) (fin false m e)) part
    ∙ (eq-left _ _ (fin false m e) (exact (a / down e) (omega arith))
    ∙ (grind (arith, nat_tests, parts) ∙ sym (chosen (a % down e == 0) (with_sign s (a / down e)))))

unsigned_fits : (s : Bool) (m : ℕ) (e : ℤ) → Ieee.fits binary64 (fin s m e) ≡ true → Ieee.fits binary64 (fin false m e) ≡ true
unfolding Ieee.fits
unsigned_fits s zero e f = f
unsigned_fits s (suc m) e f = f

pub large_whole : (x : Float) → Ieee.fits binary64 x ≡ true → Ieee.lt (float_with_sign false x) (two_to 53) ≡ false
    → float_is_finite (float_with_sign false x) ≡ is_some (whole_of_float x)
unfolding Ieee.lt float_with_sign float_is_finite
large_whole nan f high = refl
large_whole (inf s) f high = refl
large_whole (fin s m e) f high =
    let a = m * up e in
    let above : (a / down e < 2 ^ 53) → ⊥ = λ less.
    let less' = (div-lt_iff_lt-mul {x = a} {y = 2 ^ 53} (down_pos e)).0 less in
    true≢false (sym (sym high ∙ grind (arith, nat_tests, less'))) in
    let none = no_fraction m e (unsigned_fits s m e f) (grind (arith, above)) in
    sym (chosen (a % down e == 0) (with_sign s (a / down e)) ∙ grind (arith, nat_tests, none))

pub from_zero_bound : (x : Float) → Ieee.lt (float_with_sign false x) (two_to 53) ≡ true → T (Ieee.lt minus_one (float_with_sign false x))
unfolding Ieee.lt float_with_sign
from_zero_bound nan low = absurd (true≢false (sym low))
from_zero_bound (inf s) low = tt
from_zero_bound (fin s m e) low = T_from_true _ (grind (arith, nat_tests, down_pos e))

pub to_top_bound : (x : Float) → Ieee.lt x (two_to 53) ≡ true → T (Ieee.lt x (two_to 64))
unfolding Ieee.lt
to_top_bound nan low = absurd (true≢false (sym low))
to_top_bound (inf true) low = tt
to_top_bound (inf false) low = absurd (true≢false (sym low))
to_top_bound (fin true m e) low = T_from_true _ (grind (arith, nat_tests, down_pos e))
to_top_bound (fin false m e) low = T_from_true _ (grind (arith, nat_tests, down_pos e))

-- ---- sizes below 2 ^ 64

size_signed : (s : Bool) (k : ℕ) → size_of_whole (with_sign s k) ≡ (if nat_lt k (2 ^ 64) then Some k else None)
size_signed false k = refl
size_signed true zero = refl
size_signed true (suc k) = refl

-- the float without its sign and its fraction
pub size_below : (x : Float) → Ieee.lt (float_with_sign false x) (two_to 64) ≡ true → is_some (whole_of_float x) ≡ true
    → Some (Ieee.to_unsigned 64 (float_with_sign false x)) ≡ option_and_then size_of_whole (whole_of_float x)
unfolding Ieee.lt Ieee.to_unsigned float_with_sign
size_below nan low some = absurd (true≢false (sym low))
size_below (inf s) low some = absurd (true≢false (sym low))
size_below (fin s m e) low some =
    let a = m * up e in
    let below : a < 2 ^ 64 * down e = grind (arith, nat_tests) in
    let whole : a / down e < 2 ^ 64 = (div-lt_iff_lt-mul {x = a} {y = 2 ^ 64} (down_pos e)).1 below in
    let part : min (a / down e) (2 ^ 64 - 1) ≡ a / down e = omega arith in
    let fits : nat_lt (a / down e) (2 ^ 64) ≡ true = grind (arith, nat_tests) in
    let there : (a % down e == 0) ≡ true = sym (chosen (a % down e == 0) (with_sign s (a / down e))) ∙ some in
    ap Some part
    ∙ (sym (size_signed s (a / down e) ∙ ap (λ (b : Bool). if b then Some (a / down e) else None) fits)
    ∙ sym (ap (λ (b : Bool). option_and_then size_of_whole (if b then Some (with_sign s (a / down e)) else None)) there))

pub size_above : (x : Float) → Ieee.lt (float_with_sign false x) (two_to 64) ≡ false
    → None ≡ option_and_then size_of_whole (whole_of_float x)
unfolding Ieee.lt float_with_sign
size_above nan high = refl
size_above (inf s) high = refl
size_above (fin s m e) high =
    let a = m * up e in
    let above : (a / down e < 2 ^ 64) → ⊥ = λ less.
    let less' = (div-lt_iff_lt-mul {x = a} {y = 2 ^ 64} (down_pos e)).0 less in
    true≢false (sym (sym high ∙ grind (arith, nat_tests, less'))) in
    let over : nat_lt (a / down e) (2 ^ 64) ≡ false = grind (arith, nat_tests, above) in
    go (a % down e == 0) (sym (size_signed s (a / down e) ∙ ap (λ (b : Bool). if b then Some (a / down e) else None) over))
  where
    go : (b : Bool) → None ≡ size_of_whole (with_sign s (m * up e / down e))
        → None ≡ option_and_then size_of_whole (if b then Some (with_sign s (m * up e / down e)) else None)
    go true over = over
    go false over = refl

pub from_zero_up : (x : Float) → Ieee.lt (float_with_sign false x) (two_to 64) ≡ true → T (Ieee.lt minus_one (float_with_sign false x))
unfolding Ieee.lt float_with_sign
from_zero_up nan low = absurd (true≢false (sym low))
from_zero_up (inf s) low = tt
from_zero_up (fin s m e) low = T_from_true _ (grind (arith, nat_tests, down_pos e))

-- ---- a number above zero has a size above zero

pub size_above_zero : (n : Num) (k : ℕ) → number_le n (unsigned 0) ≡ false → size_in_64_bits n ≡ Some k → 0 < k
size_above_zero n zero high is = absurd (true≢false (sym (zero_size (whole_of n) refl is) ∙ high))
  where
    zero_size : (z : Option ℤ) → whole_of n ≡ z → option_and_then size_of_whole z ≡ Some 0 → number_le n (unsigned 0) ≡ true
    zero_size None whole size = none_some size
    zero_size (Some z) whole size = greatest-whole (pos 0) n z whole ∙ low z size
      where
        low : (z : ℤ) → size_of_whole z ≡ Some 0 → int_le z (pos 0) ≡ true
        low (pos m) h = go (nat_lt m (2 ^ 64)) h
          where
            go : (b : Bool) → (if b then Some m else None) ≡ Some 0 → int_le (pos m) (pos 0) ≡ true
            go true e = ap (λ (k : ℕ). int_le (pos k) (pos 0)) (some_same e)
            go false e = none_some e
        low (negsuc m) h = refl
size_above_zero n (suc k) high is = omega arith
