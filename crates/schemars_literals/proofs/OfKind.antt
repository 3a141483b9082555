-- Numbers of a kind: their order is that of whole numbers.
use Rattle.std.proofs.Common.{◌≡◌, ℤ, pos, negsuc, refl, ap, ◌∙◌, Option, Some, None, arith}
use Rattle.schemars_literals.proofs.Words.{◌&&◌, not, is_some, int_eq, nat_tests, Num, unsigned, number_eq, whole_of, least-whole, greatest-whole, equal-whole, holds, is_of_kind, is_zero, is_at_least, is_at_most, least_of, greatest_of, is_from, is_up_to, is_number_of_kind}
use Rattle.schemars_shapes.specs.declared.shape.IntKind.{IntKind}

from_same : (least : Option ℤ) (n : Num) (z : ℤ) → whole_of n ≡ Some z → is_from least n ≡ is_at_least least z
from_same None n z is = refl
from_same (Some l) n z is = least-whole l n z is

up_to_same : (greatest : Option ℤ) (n : Num) (z : ℤ) → whole_of n ≡ Some z → is_up_to greatest n ≡ is_at_most greatest z
up_to_same None n z is = refl
up_to_same (Some g) n z is = greatest-whole g n z is

pub of_kind : (kind : IntKind) (n : Num) → is_number_of_kind kind n ≡ holds (whole_of n) (is_of_kind kind)
of_kind kind n = go (whole_of n) refl
  where
    go : (o : Option ℤ) → whole_of n ≡ o
        → is_some o && (is_from (least_of kind) n && is_up_to (greatest_of kind) n) ≡ holds o (is_of_kind kind)
    go None is = refl
    go (Some z) is = λ i. from_same (least_of kind) n z is i && up_to_same (greatest_of kind) n z is i

int_zero : (z : ℤ) → int_eq (pos 0) z ≡ is_zero z
int_zero (pos n) = grind (arith, nat_tests)
int_zero (negsuc n) = grind (arith, nat_tests)

pub not_zero : (kind : IntKind) (n : Num)
    → is_number_of_kind kind n && not (number_eq (unsigned 0) n) ≡ holds (whole_of n) (λ z. is_of_kind kind z && not (is_zero z))
not_zero kind n = ap (λ b. b && not (number_eq (unsigned 0) n)) (of_kind kind n) ∙ go (whole_of n) refl
  where
    go : (o : Option ℤ) → whole_of n ≡ o
        → holds o (is_of_kind kind) && not (number_eq (unsigned 0) n) ≡ holds o (λ z. is_of_kind kind z && not (is_zero z))
    go None is = refl
    go (Some z) is = ap (λ b. is_of_kind kind z && not b) (equal-whole (pos 0) n z is ∙ int_zero z)
