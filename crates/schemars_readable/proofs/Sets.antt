-- A set of texts, with one more or without.
use Rattle.std.proofs.Common.{◌≡◌, ◌∙◌, List, ◌∷◌, Bool, true, false, true≢false, refl, sym, ap, subst}
use Rattle.schemars_readable.proofs.Words.{◌&&◌, ◌||◌, not, String, string_bytes, bytes_eq, list_any, HashSet, PutsKey, bytes_eq-Decides, list_any-IsPermutation, Text}

or_none : (b c : Bool) → (b || (c && false)) ≡ b
or_none true c = refl
or_none false true = refl
or_none false false = refl

or_turned : (b c : Bool) → (c || b) ≡ (b || (c && true))
or_turned true true = refl
or_turned true false = refl
or_turned false true = refl
or_turned false false = refl

-- a set of texts without more
pub put_none : {Y : Type 0} (ks : List (String Y)) (k t : Text)
    → list_any (λ x. bytes_eq t (string_bytes x)) ks
    ≡ (list_any (λ x. bytes_eq t (string_bytes x)) ks || (bytes_eq t k && false))
put_none ks k t = sym (or_none (list_any (λ x. bytes_eq t (string_bytes x)) ks) (bytes_eq t k))

-- a set of texts that has one more
pub put_text : {Y S : Type 0} (s n : HashSet (String Y) S) (k : String Y) (t : Text) (added : Bool)
    → PutsKey s n k added → added ≡ not (list_any (λ x. bytes_eq (string_bytes k) (string_bytes x)) s.keys)
    → list_any (λ x. bytes_eq t (string_bytes x)) n.keys
    ≡ (list_any (λ x. bytes_eq t (string_bytes x)) s.keys || (bytes_eq t (string_bytes k) && true))
put_text s n k t true puts is =
    sym (list_any-IsPermutation (λ x. bytes_eq t (string_bytes x)) (k ∷ s.keys) n.keys puts)
    ∙ or_turned (list_any (λ x. bytes_eq t (string_bytes x)) s.keys) (bytes_eq t (string_bytes k))
put_text s n k t false same is =
    ap (list_any (λ x. bytes_eq t (string_bytes x))) same
    ∙ known (bytes_eq t (string_bytes k)) refl
  where
    turned : (b : Bool) → false ≡ not b → b ≡ true
    turned true h = refl
    turned false h = absurd (true≢false (sym h))

    known : (b : Bool) → bytes_eq t (string_bytes k) ≡ b
        → list_any (λ x. bytes_eq t (string_bytes x)) s.keys
        ≡ (list_any (λ x. bytes_eq t (string_bytes x)) s.keys || (b && true))
    known false differs = sym (or_none (list_any (λ x. bytes_eq t (string_bytes x)) s.keys) true)
    known true equal =
        let there = turned (list_any (λ x. bytes_eq (string_bytes k) (string_bytes x)) s.keys) is in
        let here : list_any (λ x. bytes_eq t (string_bytes x)) s.keys ≡ true =
        subst (λ u. list_any (λ x. bytes_eq u (string_bytes x)) s.keys ≡ true)
        (sym ((bytes_eq-Decides t (string_bytes k)).0 equal)) there in
        here ∙ sym (ap (λ b. b || true) here)
