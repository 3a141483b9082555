-- A number that is a count: whole, and not below zero.
use Rattle.std.proofs.Common.{◌≡◌, ℕ, ℤ, pos, negsuc, true, refl, sym, ap, ◌∙◌, true≢false, Option, Some, None, nat_le, arith}
use Rattle.schemars_assertions.proofs.Words.{nat_tests, is_some, option_map, option_and_then, int_le, Num, unsigned, number_le, whole_of, from_zero, least-whole, greatest-whole}

zero_first : (m : ℕ) → int_le (pos 0) (pos m) ≡ true
zero_first m = grind (arith, nat_tests)

pub from_zero_on : (n : Num) → is_some (whole_of n) ≡ true → number_le (unsigned 0) n ≡ is_some (option_and_then from_zero (whole_of n))
from_zero_on n whole = go (whole_of n) refl whole
  where
    go : (z : Option ℤ) → whole_of n ≡ z → is_some z ≡ true → number_le (unsigned 0) n ≡ is_some (option_and_then from_zero z)
    go None is some = absurd (true≢false (sym some))
    go (Some (pos m)) is some = least-whole (pos 0) n (pos m) is ∙ zero_first m
    go (Some (negsuc m)) is some = least-whole (pos 0) n (negsuc m) is

pub count_at_most : (n : Num) (k : ℕ) → is_some (option_and_then from_zero (whole_of n)) ≡ true
    → Some (number_le n (unsigned k)) ≡ option_map (λ m. nat_le m k) (option_and_then from_zero (whole_of n))
count_at_most n k count = go (whole_of n) refl count
  where
    go : (z : Option ℤ) → whole_of n ≡ z → is_some (option_and_then from_zero z) ≡ true
        → Some (number_le n (unsigned k)) ≡ option_map (λ m. nat_le m k) (option_and_then from_zero z)
    go None is some = absurd (true≢false (sym some))
    go (Some (pos m)) is some = ap Some (greatest-whole (pos k) n (pos m) is)
    go (Some (negsuc m)) is some = absurd (true≢false (sym some))

pub count_at_least : (n : Num) (k : ℕ) → is_some (option_and_then from_zero (whole_of n)) ≡ true
    → Some (number_le (unsigned k) n) ≡ option_map (λ m. nat_le k m) (option_and_then from_zero (whole_of n))
count_at_least n k count = go (whole_of n) refl count
  where
    go : (z : Option ℤ) → whole_of n ≡ z → is_some (option_and_then from_zero z) ≡ true
        → Some (number_le (unsigned k) n) ≡ option_map (λ m. nat_le k m) (option_and_then from_zero z)
    go None is some = absurd (true≢false (sym some))
    go (Some (pos m)) is some = ap Some (least-whole (pos k) n (pos m) is)
    go (Some (negsuc m)) is some = absurd (true≢false (sym some))
