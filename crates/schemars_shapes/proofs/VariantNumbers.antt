-- The first number of several variants that passes a test.
use Rattle.std.proofs.Common.{◌≡◌, ◌<◌, ◌+◌, ◌∙◌, ℕ, List, Bool, Option, Some, None, map, drop, get_or, find, length, sym, ap}
use Rattle.schemars_shapes.proofs.Words.{option_or, find-append, at_drop_more, Variant, payload_numbers, variant_numbers}

first_in : {A : Type 0} (says : A → Variant) (p : ℕ → Bool) → List A → Option ℕ
first_in says p xs = find p (variant_numbers (map says xs))

step : {A : Type 0} (says : A → Variant) (p : ℕ → Bool) (xs : List A) (i : ℕ) (d : A) → i < length xs
    → first_in says p (drop i xs)
    ≡ option_or (find p (payload_numbers (says (get_or xs i d)).payload)) (first_in says p (drop (i + 1) xs))
unfolding first_in
step says p xs i d below = at_drop_more (first_in says p) xs i d below
    ∙ find-append p (payload_numbers (says (get_or xs i d)).payload) (variant_numbers (map says (drop (i + 1) xs)))

pub found_here : {A : Type 0} (says : A → Variant) (p : ℕ → Bool) (xs : List A) (i : ℕ) (d : A) (n : ℕ) → i < length xs
    → find p (payload_numbers (says (get_or xs i d)).payload) ≡ Some n → find p (variant_numbers (map says (drop i xs))) ≡ Some n
unfolding first_in
found_here says p xs i d n below is = step says p xs i d below ∙ ap (λ o. option_or o (first_in says p (drop (i + 1) xs))) is

pub found_later : {A : Type 0} (says : A → Variant) (p : ℕ → Bool) (xs : List A) (i : ℕ) (d : A) → i < length xs
    → find p (payload_numbers (says (get_or xs i d)).payload) ≡ None
    → find p (variant_numbers (map says (drop (i + 1) xs))) ≡ find p (variant_numbers (map says (drop i xs)))
unfolding first_in
found_later says p xs i d below is = sym (step says p xs i d below ∙ ap (λ o. option_or o (first_in says p (drop (i + 1) xs))) is)
