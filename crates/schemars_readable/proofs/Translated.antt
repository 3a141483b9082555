-- A pattern is translated a character at a time.
use Rattle.std.proofs.Common.{◌≡◌, ℕ, List, [], ◌∷◌, ◌++◌, refl, sym, ap, ◌∙◌, append_assoc, append-nil}
use Rattle.schemars_readable.proofs.Words.{written, after, written_from, place_after}
use Rattle.schemars_readable.specs.declared.ecma.Place.{Place}

pub written-more : (p : Place) (cs : List ℕ) (c : ℕ) → written_from p (cs ++ c ∷ []) ≡ written_from p cs ++ written (place_after p cs) c
written-more p [] c = append-nil (written p c)
written-more p (x ∷ cs) c =
    ap (λ t. written p x ++ t) (written-more (after p x) cs c)
    ∙ sym (append_assoc (written p x) (written_from (after p x) cs) (written (place_after (after p x) cs) c))

pub place-more : (p : Place) (cs : List ℕ) (c : ℕ) → place_after p (cs ++ c ∷ []) ≡ after (place_after p cs) c
place-more p [] c = refl
place-more p (x ∷ cs) c = place-more (after p x) cs c
