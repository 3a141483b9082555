-- JSON text that is written token by token.
use Rattle.std.proofs.Common.{◌≡◌, ℕ, ◌^◌, pos, ℤ, List, [], ◌∷◌, ◌++◌, Bool, true, false, cond, nat_lt, Some, None, decimal, refl, ap, ◌∙◌}
use Rattle.schemars_text.proofs.Words.{fold, signed_decimal, Token, print, ends, ends_value, print_from_push, Num, unsigned, negative, float, as_u64, as_i64, is_float, number_text, Output, with_token}

-- what a writer of these tokens shows
abbrev pub output_of : List Token → Output
output_of ts = record { text = print ts; after_value = ends_value ts }

ends_push : (c : Bool) (ts : List Token) (t : Token) → fold (λ _ u. ends u) c (ts ++ t ∷ []) ≡ ends t
ends_push c [] t = refl
ends_push c (u ∷ ts) t = ends_push (ends u) ts t

-- one token more
pub output_of_push : (ts us : List Token) (t : Token) → us ≡ ts ++ t ∷ [] → output_of us ≡ with_token (output_of ts) t
output_of_push ts us t e =
    ap output_of e ∙ (λ i. record { text = print_from_push false ts t i; after_value = ends_push false ts t i })

either_number : (b : Bool) (n : ℕ) (z : ℤ) → cond b (Some (pos n)) None ≡ Some z → pos n ≡ z
either_number true n z e = cc
either_number false n z e = cc

pub number_text_of_u64 : (n : Num) (k : ℕ) → as_u64 n ≡ Some k → number_text n ≡ decimal k
number_text_of_u64 (unsigned m) k e = let same : m ≡ k = cc in ap decimal same
number_text_of_u64 (negative z) k e = cc
number_text_of_u64 (float x) k e = cc

pub number_text_of_i64 : (n : Num) (z : ℤ) → as_i64 n ≡ Some z → number_text n ≡ signed_decimal z
number_text_of_i64 (unsigned m) z e = ap signed_decimal (either_number (nat_lt m (2 ^ 63)) m z e)
number_text_of_i64 (negative y) z e = let same : y ≡ z = cc in ap signed_decimal same
number_text_of_i64 (float x) z e = cc

pub whole_or_float : (n : Num) → as_u64 n ≡ None → as_i64 n ≡ None → is_float n ≡ false → ⊥
whole_or_float (unsigned m) no_unsigned no_signed no_float = cc
whole_or_float (negative z) no_unsigned no_signed no_float = cc
whole_or_float (float x) no_unsigned no_signed no_float = cc
