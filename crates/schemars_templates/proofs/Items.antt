-- The items so far, with one more, and at the end.
use Rattle.std.proofs.Common.{◌≡◌, ◌<◌, ◌≤◌, ◌+◌, ◌∙◌, ℕ, List, [], ◌∷◌, ◌++◌, length, map, drop, get_or, sym, ap, append_assoc, append-nil}
use Rattle.std.proofs.lemmas.List.{map-append, at_drop_more, at_drop_all}

pub one_more : {A B X Y : Type 0} (view : A → B) (F : Y → B) (g : X → Y) (items new : List A) (a : A) (x : X) (xs : List X) (i : ℕ)
    → i < length xs → x ≡ get_or xs i x → new ≡ items ++ a ∷ [] → view a ≡ F (g x)
    → map view items ++ map F (map g (drop i xs)) ≡ map F (map g xs)
    → map view new ++ map F (map g (drop (i + 1) xs)) ≡ map F (map g xs)
one_more view F g items new a x xs i below here grown is so_far =
    let rest = map F (map g (drop (i + 1) xs)) in
    ap (λ bs. map view bs ++ rest) grown
    ∙ (ap (λ bs. bs ++ rest) (map-append view items (a ∷ []))
    ∙ (append_assoc (map view items) (view a ∷ []) rest
    ∙ (ap (λ b. map view items ++ b ∷ rest) (is ∙ ap (λ y. F (g y)) here)
    ∙ (sym (at_drop_more (λ ys. map view items ++ map F (map g ys)) xs i x below) ∙ so_far))))

-- nothing is left
pub no_more : {X Y : Type 0} (F : List X → List Y) (xs : List X) (i : ℕ) (so_far whole : List Y) → length xs ≤ i → F [] ≡ []
    → so_far ++ F (drop i xs) ≡ whole → so_far ≡ whole
no_more F xs i so_far whole past none all =
    sym (append-nil so_far) ∙ (ap (λ ys. so_far ++ ys) (sym none) ∙ (sym (at_drop_all (λ ys. so_far ++ F ys) xs i past) ∙ all))
