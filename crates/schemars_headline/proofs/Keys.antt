-- The keys of members, and those of definitions.
use Rattle.std.proofs.Common.{◌≡◌, ◌⊎◌, inl, inr, ◌∷◌, [], Some, None, true, Ordering, Less, Equal, Greater, nat_cmp, refl, sym, ap, ◌∙◌, true≢false}
use Rattle.schemars_headline.proofs.Words.{IsOther, codes, match_ordering, slice_cmp, exact_bytes, Data, Members, no_members, member, get_member, Text, is_listed, HasKeysOnce, IsKey, is_annotation, annotation-not_listed, get_member-here}

-- ---- which keys there are

pub key_here : (k : Text) (d : Data) (ms : Members) → IsKey k (member k d ms)
key_here k d ms = (d, get_member-here k d ms)

pub key_later : (j k : Text) (d : Data) (ms : Members) → IsKey j ms → IsKey j (member k d ms)
key_later j k d ms h = go (slice_cmp nat_cmp j k)
  where
    go : (o : Ordering) → (e : Data) × (match_ordering o (get_member j ms) (Some d) (get_member j ms) ≡ Some e)
    go Less = h
    go Equal = (d, refl)
    go Greater = h

pub key_cases : (j k : Text) (d : Data) (ms : Members) → IsKey j (member k d ms) → (j ≡ k) ⊎ IsKey j ms
key_cases j k d ms h = go (slice_cmp nat_cmp j k) refl h.1
  where
    go : (o : Ordering) → slice_cmp nat_cmp j k ≡ o → match_ordering o (get_member j ms) (Some d) (get_member j ms) ≡ Some h.0
        → (j ≡ k) ⊎ IsKey j ms
    go Less is found = inr (h.0, found)
    go Equal is found = inl (exact_bytes j k is)
    go Greater is found = inr (h.0, found)

-- ---- members with each key once

abbrev pub AllMembers : (Data → Type 0) → Members → Type 0
AllMembers P no_members = Unit {0}
AllMembers P (member k d ms) = P d × AllMembers P ms

found_later : (j k : Text) (d e : Data) (ms : Members) → get_member k ms ≡ None → get_member j ms ≡ Some e
    → get_member j (member k d ms) ≡ Some e
found_later j k d e ms new found = go (slice_cmp nat_cmp j k) refl
  where
    go : (o : Ordering) → slice_cmp nat_cmp j k ≡ o → match_ordering o (get_member j ms) (Some d) (get_member j ms) ≡ Some e
    go Less is = found
    go Equal is = let same : j ≡ k = exact_bytes j k is in let none : get_member j ms ≡ None = rw same new in cc
    go Greater is = found

-- what holds of all that is found holds of all members
pub all_members : (P : Data → Type 0) (ms : Members) → HasKeysOnce ms → ((k : Text) (d : Data) → get_member k ms ≡ Some d → P d)
    → AllMembers P ms
all_members P no_members once all = tt
all_members P (member k d ms) once all = (
  all k d (get_member-here k d ms),
  all_members P ms once.1 (λ j e found. all j e (found_later j k d e ms once.0 found)),
)

-- and of all members, of what is found
pub found_among : (P : Data → Type 0) (ms : Members) → AllMembers P ms → (k : Text) (d : Data) → get_member k ms ≡ Some d → P d
found_among P no_members all k d found = cc
found_among P (member l e ms) all k d found = go (slice_cmp nat_cmp k l) found (found_among P ms all.1 k d)
  where
    go : (o : Ordering) → match_ordering o (get_member k ms) (Some e) (get_member k ms) ≡ Some d → (get_member k ms ≡ Some d → P d) → P d
    go Less found later = later found
    go Equal found later = let same : e ≡ d = cc in rw (← same) (all.0)
    go Greater found later = later found

-- ---- where definitions are in a root document

abbrev pub IsDefinitionsKey : Text → Type 0
IsDefinitionsKey key = (key ≡ codes "$defs") ⊎ (key ≡ codes "definitions")

pub other_apart : (key k : Text) → IsDefinitionsKey key → IsOther k → key ≡ k → ⊥
other_apart key k (inl is) other same = true≢false (ap (λ x. is_listed x (codes "$defs" ∷ codes "definitions" ∷ [])) (sym is ∙ same)
    ∙ other)
other_apart key k (inr is) other same = true≢false (ap (λ x. is_listed x (codes "$defs" ∷ codes "definitions" ∷ [])) (sym is ∙ same)
    ∙ other)

pub annotation_other : (k : Text) → is_annotation k ≡ true → IsOther k
annotation_other k note = annotation-not_listed k (codes "$defs" ∷ codes "definitions" ∷ []) refl note
