-- The references and the floats of an object as members are put into it.
use Rattle.std.proofs.Common.{◌≡◌, List, [], ◌∷◌, ◌++◌, true, false, Ordering, Less, Equal, Greater, refl, sym, ap, ◌∙◌, nat_cmp}
use Rattle.schemars_schema.proofs.Words.{codes, bytes_eq, if◌then◌else◌, match_ordering, slice_cmp, exact_bytes, or_parts, Data, Members, no_members, member, put, has_float, members_have_float, Text, is_annotation, with_schema, with_list, keywords_with_names, place_under, at_place, found_in, found_in_keywords}
use Rattle.schemars_schema.proofs.Objects.{annotation-not_listed}

-- the references under a keyword
abbrev pub found_under : Text → Data → List Data
found_under k d = if bytes_eq k (codes "$ref") then d ∷ [] else at_place (place_under k) (found_in d)

nil-parts : (xs ys : List Data) → xs ++ ys ≡ [] → (xs ≡ []) × (ys ≡ [])
nil-parts [] ys h = (refl, h)
nil-parts (x ∷ xs) ys h = cc

pub found_in_keywords-put : (k : Text) (d : Data) (ms : Members) → found_under k d ≡ [] → found_in_keywords ms ≡ []
    → found_in_keywords (put k d ms) ≡ []
unfolding found_in
found_in_keywords-put k d no_members here all = rw here
found_in_keywords-put k d (member l e ms) here all = go (slice_cmp nat_cmp k l) refl (found_in_keywords-put k d ms here parts.1)
  where
    parts : (found_under l e ≡ []) × (found_in_keywords ms ≡ [])
    parts = nil-parts (found_under l e) (found_in_keywords ms) all

    go : (o : Ordering) → slice_cmp nat_cmp k l ≡ o → found_in_keywords (put k d ms) ≡ []
        → found_in_keywords (match_ordering o (member k d (member l e ms)) (member l d ms) (member l e (put k d ms))) ≡ []
    go Less is later = rw here all
    go Equal is later = rw (ap (λ x. found_under x d) (sym (exact_bytes k l is)) ∙ here) parts.1
    go Greater is later = rw parts.0 later

pub members_have_float-put : (k : Text) (d : Data) (ms : Members) → has_float d ≡ false → members_have_float ms ≡ false
    → members_have_float (put k d ms) ≡ false
members_have_float-put k d no_members here all = rw here
members_have_float-put k d (member l e ms) here all = go (slice_cmp nat_cmp k l) (members_have_float-put k d ms here parts.1)
  where
    parts : (has_float e ≡ false) × (members_have_float ms ≡ false)
    parts = or_parts (has_float e) (members_have_float ms) all

    go : (o : Ordering) → members_have_float (put k d ms) ≡ false → members_have_float
        (match_ordering o (member k d (member l e ms)) (member l d ms) (member l e (put k d ms))) ≡ false
    go Less later = rw here all
    go Equal later = rw here parts.1
    go Greater later = rw parts.0 later

-- there is no schema under an annotation
pub found_under-annotation : (k : Text) (d : Data) → is_annotation k ≡ true → found_under k d ≡ []
found_under-annotation k d note =
    rw (
      (or_parts (bytes_eq k (codes "$ref")) false (annotation-not_listed k (codes "$ref" ∷ []) refl note)).0,
      annotation-not_listed k with_schema refl note,
      annotation-not_listed k with_list refl note,
      (or_parts (bytes_eq k (codes "items")) false (annotation-not_listed k (codes "items" ∷ []) refl note)).0,
      annotation-not_listed k keywords_with_names refl note,
    )
