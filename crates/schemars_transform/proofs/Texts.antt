-- Copies of texts.
use Rattle.std.proofs.Common.{◌≡◌, List, [], ◌∷◌, map, String, Global, string_bytes, refl, ap, ◌∙◌}
use Rattle.std.specs.List.{AllZip}

pub same_texts : (ss ts : List (String Global)) → AllZip (λ s t. string_bytes t ≡ string_bytes s) ss ts
    → map string_bytes ts ≡ map string_bytes ss
same_texts [] [] h = refl
same_texts [] (t ∷ ts) h = absurd h
same_texts (s ∷ ss) [] h = absurd h
same_texts (s ∷ ss) (t ∷ ts) h =
    ap (λ x. x ∷ map string_bytes ts) h.0 ∙ ap (λ xs. string_bytes s ∷ xs) (same_texts ss ts h.1)
