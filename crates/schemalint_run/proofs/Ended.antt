-- Lines whose last one ends in a newline.
use Rattle.std.proofs.Common.{◌≡◌, ℕ, List, [], ◌∷◌, ◌++◌, ◌-◌, inr, true, false, true≢false, sym, ap, ◌∙◌, length, take, drop}
use Rattle.schemalint_run.proofs.Words.{take-append-drop, and_parts, Decides-eqb, pointwise, ends_with, ◌==◌, AreLines}

newline : (xs : List ℕ) → pointwise (λ a b. a == b) (10 ∷ []) xs ≡ true → xs ≡ 10 ∷ []
newline (x ∷ []) h = ap (λ y. y ∷ []) (sym ((Decides-eqb 10 x).0 (and_parts _ _ h).0))
newline (x ∷ y ∷ ys) h = absurd (true≢false (sym (and_parts (10 == x) false h).1))
newline [] h = absurd (true≢false (sym h))

pub ended : (xs : List ℕ) → ends_with (λ a b. a == b) xs (10 ∷ []) ≡ true → AreLines xs
ended xs h =
    let before = take (length xs - 1) xs in
    inr (before, sym (take-append-drop (length xs - 1) xs) ∙ ap (λ ys. before ++ ys) (newline (drop (length xs - 1) xs) h))
