-- Which references stay as members are put in, as a schema is given notes and as null is allowed.
use Rattle.std.proofs.Common.{◌≡◌, inl, inr, List, [], ◌∷◌, ◌++◌, Bool, true, false, Option, Some, None, Ordering, Less, Equal, Greater, nat_cmp, refl, sym, ap, ◌∙◌, subst, Contains, append_assoc, append-nil, true≢false}
use Rattle.schemars_meaning.proofs.Words.{codes, bytes_eq, is_some, not, if◌then◌else◌, match_ordering, slice_cmp, exact_bytes, bytes_eq-Decides, Data, null, boolean, number, string, array, object, no_items, item, Members, no_members, member, put, get_member, get_member-put_other, Text, IsSchema, put_members, members_in, AreNotes, without, is_null, found_in_members, found_in_keywords, references, found_under, allow_null, annotated, filter, Contains-append_left, Contains-append_right, Contains-append_cases, found_in, found_under-annotation, is_null_choice, is_combined, or_null, type_with_null, null_in_type, enum_with_null, null_in_enum, const_or_null, null_in_const, null_in_values, with_title, with_meta_schema, root_document}

-- ---- references among others

abbrev pub Among : List Data → List Data → Type 0
Among xs ys = (x : Data) → Contains xs x → Contains ys x

pub among_left : (xs ys : List Data) → Among xs (xs ++ ys)
among_left xs ys x h = Contains-append_left xs ys x h

pub among_right : (xs ys : List Data) → Among ys (xs ++ ys)
among_right xs ys x h = Contains-append_right xs ys x h

pub among_append : (xs ys zs ws : List Data) → Among xs zs → Among ys ws → Among (xs ++ ys) (zs ++ ws)
among_append xs ys zs ws first second x h = elim (Contains-append_cases xs ys x h) [
  | inl a ↦ Contains-append_left zs ws x (first x a)
  | inr b ↦ Contains-append_right zs ws x (second x b)
]

pub among_equal : (xs ys : List Data) → xs ≡ ys → Among xs ys
among_equal xs ys e = subst (Among xs) e (λ x h. h)

among_swap : (xs ys zs : List Data) → Among (xs ++ (ys ++ zs)) (ys ++ (xs ++ zs))
among_swap xs ys zs x h = elim (Contains-append_cases xs (ys ++ zs) x h) [
  | inl a ↦ among_right ys (xs ++ zs) x (among_left xs zs x a)
  | inr b ↦ among_append ys zs ys (xs ++ zs) (λ y g. g) (among_right xs zs) x b
]

pub among_more : (xs ys zs : List Data) → Among (xs ++ zs) ((xs ++ ys) ++ zs)
among_more xs ys zs = among_append xs zs (xs ++ ys) zs (among_left xs ys) (λ x h. h)

-- ---- members under new keys

pub keywords-new : (k : Text) (d : Data) (ms : Members) → get_member k ms ≡ None
    → Among (found_under k d ++ found_in_keywords ms) (found_in_keywords (put k d ms))
unfolding found_in
keywords-new k d no_members new = λ x h. h
keywords-new k d (member l e ms) new = go (slice_cmp nat_cmp k l) new (keywords-new k d ms)
  where
    go : (o : Ordering) → match_ordering o (get_member k ms) (Some e) (get_member k ms) ≡ None
        → (get_member k ms ≡ None → Among (found_under k d ++ found_in_keywords ms) (found_in_keywords (put k d ms)))
        → Among (found_under k d ++ found_in_keywords (member l e ms))
        (found_in_keywords (match_ordering o (member k d (member l e ms)) (member l d ms) (member l e (put k d ms))))
    go Less new later = λ x h. h
    go Equal new later = cc
    go Greater new later = λ x h. among_append (found_under l e) (found_under k d ++ found_in_keywords ms) (found_under l e)
        (found_in_keywords (put k d ms)) (λ y g. g) (later new) x
        (among_swap (found_under k d) (found_under l e) (found_in_keywords ms) x h)

pub members-new : (k : Text) (d : Data) (ms : Members) → get_member k ms ≡ None
    → Among (references d ++ found_in_members ms) (found_in_members (put k d ms))
unfolding found_in
members-new k d no_members new = λ x h. h
members-new k d (member l e ms) new = go (slice_cmp nat_cmp k l) new (members-new k d ms)
  where
    go : (o : Ordering) → match_ordering o (get_member k ms) (Some e) (get_member k ms) ≡ None
        → (get_member k ms ≡ None → Among (references d ++ found_in_members ms) (found_in_members (put k d ms)))
        → Among (references d ++ found_in_members (member l e ms))
        (found_in_members (match_ordering o (member k d (member l e ms)) (member l d ms) (member l e (put k d ms))))
    go Less new later = λ x h. h
    go Equal new later = cc
    go Greater new later = λ x h. among_append (references e) (references d ++ found_in_members ms) (references e)
        (found_in_members (put k d ms)) (λ y g. g) (later new) x
        (among_swap (references d) (references e) (found_in_members ms) x h)

-- what was put in under a new key, before the rest
pub among_turn : (new here old after all : List Data) → Among (here ++ old) new → Among all (here ++ after)
    → Among (old ++ all) (new ++ after)
among_turn new here old after all f g x h =
    let moved = among_swap old here after x (among_append old all old (here ++ after) (λ y i. i) g x h) in
    among_append (here ++ old) after new after f (λ y i. i) x
    (among_equal (here ++ (old ++ after)) ((here ++ old) ++ after) (sym (append_assoc here old after)) x moved)

-- ---- where the value of the key has no reference

keywords-put : (k : Text) (d : Data) (ms : Members) → ((e : Data) → found_under k e ≡ [])
    → found_in_keywords (put k d ms) ≡ found_in_keywords ms
unfolding found_in
keywords-put k d no_members none = rw (none d) refl
keywords-put k d (member l e ms) none = go (slice_cmp nat_cmp k l) refl (keywords-put k d ms none)
  where
    go : (o : Ordering) → slice_cmp nat_cmp k l ≡ o → found_in_keywords (put k d ms) ≡ found_in_keywords ms
        → found_in_keywords (match_ordering o (member k d (member l e ms)) (member l d ms) (member l e (put k d ms)))
        ≡ found_in_keywords (member l e ms)
    go Less is later = ap (λ xs. xs ++ found_in_keywords (member l e ms)) (none d)
    go Equal is later =
        let nothing : (f : Data) → found_under l f ≡ [] = λ f. ap (λ x. found_under x f) (sym (exact_bytes k l is)) ∙ none f in
        ap (λ xs. xs ++ found_in_keywords ms) (nothing d ∙ sym (nothing e))
    go Greater is later = ap (λ xs. found_under l e ++ xs) later

keywords-removed : (k : Text) (ms : Members) → ((e : Data) → found_under k e ≡ [])
    → found_in_keywords (without k ms) ≡ found_in_keywords ms
unfolding found_in
keywords-removed k no_members none = refl
keywords-removed k (member l e ms) none = go (bytes_eq k l) refl (keywords-removed k ms none)
  where
    go : (b : Bool) → bytes_eq k l ≡ b → found_in_keywords (without k ms) ≡ found_in_keywords ms
        → found_in_keywords (if b then ms else member l e (without k ms)) ≡ found_in_keywords (member l e ms)
    go true is later =
        let nothing : found_under l e ≡ [] = ap (λ x. found_under x e) (sym ((bytes_eq-Decides k l).0 is)) ∙ none e in
        ap (λ xs. xs ++ found_in_keywords ms) (sym nothing)
    go false is later = ap (λ xs. found_under l e ++ xs) later

-- ---- notes

pub references-members_in : (s : Data) → found_in_keywords (members_in s) ≡ references s
unfolding found_in
references-members_in (boolean true) = refl
references-members_in _ = refl

references-put_members : (notes ms : Members) → AreNotes notes → found_in_keywords (put_members notes ms) ≡ found_in_keywords ms
references-put_members no_members ms h = refl
references-put_members (member k d notes) ms h =
    references-put_members notes (put k d ms) h.1 ∙ keywords-put k d ms (λ e. found_under-annotation k e h.0)

pub references-annotated : (notes : Members) (s : Data) → AreNotes notes → references (annotated notes s) ≡ references s
unfolding found_in
references-annotated no_members s h = refl
references-annotated (member k d notes) s h = references-put_members (member k d notes) (members_in s) h ∙ references-members_in s

-- ---- null

-- ---- a root document

references-title : (name : Text) (ms : Members) → found_in_keywords (with_title name ms) ≡ found_in_keywords ms
references-title name ms = go (is_some (get_member (codes "title") ms))
  where
    go : (b : Bool) → found_in_keywords (if b then ms else put (codes "title") (string name) ms) ≡ found_in_keywords ms
    go true = refl
    go false = keywords-put (codes "title") (string name) ms (λ e. refl)

references-meta_schema : (uri : Option Text) (ms : Members) → found_in_keywords (with_meta_schema uri ms) ≡ found_in_keywords ms
references-meta_schema None ms = refl
references-meta_schema (Some uri) ms = keywords-put (codes "$schema") (string uri) ms (λ e. refl)

pub references-root : (name : Text) (uri : Option Text) (s : Data) → references (root_document name uri s) ≡ references s
unfolding found_in
references-root name uri s = references-meta_schema uri (with_title name (members_in s))
    ∙ (references-title name (members_in s) ∙ references-members_in s)

references-null_in_type : (o : Option Data) (ms : Members) → found_in_keywords (null_in_type o ms) ≡ found_in_keywords ms
references-null_in_type None ms = refl
references-null_in_type (Some d) ms = keywords-put (codes "type") (type_with_null d) ms (λ e. refl)

references-null_in_enum : (o : Option Data) (ms : Members) → found_in_keywords (null_in_enum o ms) ≡ found_in_keywords ms
references-null_in_enum None ms = refl
references-null_in_enum (Some d) ms = keywords-put (codes "enum") (enum_with_null d) ms (λ e. refl)

references-null_in_const : (o : Option Data) (ms : Members) → found_in_keywords (null_in_const o ms) ≡ found_in_keywords ms
references-null_in_const None ms = references-null_in_enum (get_member (codes "enum") ms) ms
references-null_in_const (Some c) ms = go (is_null c)
  where
    go : (b : Bool) → found_in_keywords (if b then ms else const_or_null c ms) ≡ found_in_keywords ms
    go true = refl
    go false =
        keywords-put (codes "enum") (array (item c (item null no_items))) (without (codes "const") ms) (λ e. refl)
        ∙ keywords-removed (codes "const") ms (λ e. refl)

references-or_null : (s : Data) → references (or_null s) ≡ references s
unfolding found_in
references-or_null s = append-nil (references s ++ []) ∙ append-nil (references s)

pub references-allow_null : (s : Data) → references (allow_null s) ≡ references s
unfolding found_in
references-allow_null null = refl
references-allow_null (boolean true) = refl
references-allow_null (boolean false) = refl
references-allow_null (number n) = refl
references-allow_null (string t) = refl
references-allow_null (array ds) = refl
references-allow_null (object ms) = go (is_null_choice (object ms)) (is_combined (object ms))
  where
    typed : Members
    typed = null_in_type (get_member (codes "type") ms) ms

    go : (stays b : Bool) → references (if stays then object ms else if b then or_null (object ms) else
        object (null_in_values (null_in_type (get_member (codes "type") ms) ms))) ≡ references (object ms)
    go true b = refl
    go false true = references-or_null (object ms)
    go false false = references-null_in_const (get_member (codes "const") typed) typed
        ∙ references-null_in_type (get_member (codes "type") ms) ms

pub allow_null-schema : (s : Data) → IsSchema s → IsSchema (allow_null s)
allow_null-schema (boolean true) h = tt
allow_null-schema (boolean false) h = tt
allow_null-schema (object ms) h = go (is_null_choice (object ms)) (is_combined (object ms))
  where
    go : (stays b : Bool) → IsSchema (if stays then object ms else if b then or_null (object ms) else
        object (null_in_values (null_in_type (get_member (codes "type") ms) ms)))
    go true b = tt
    go false true = tt
    go false false = tt
allow_null-schema _ h = h

-- ---- in a list

pub in_list_of_schema : (t : Data) → IsSchema t → (found_in t).in_list ≡ []
unfolding found_in
in_list_of_schema (boolean b) h = refl
in_list_of_schema (object ms) h = refl
in_list_of_schema _ h = absurd h

-- ---- keys that are all different

-- no key is this one
abbrev pub IsNoKey : Text → List Text → Type 0
IsNoKey k [] = Unit {0}
IsNoKey k (l ∷ ls) = (bytes_eq l k ≡ false) × IsNoKey k ls

-- the keys are all different
abbrev pub AreApart : List Text → Type 0
AreApart [] = Unit {0}
AreApart (k ∷ ks) = IsNoKey k ks × AreApart ks

pub no_key-filter : (k : Text) (p : Text → Bool) (ks : List Text) → IsNoKey k ks → IsNoKey k (filter p ks)
no_key-filter k p [] h = tt
no_key-filter k p (l ∷ ks) h = go (p l) (no_key-filter k p ks h.1)
  where
    go : (b : Bool) → IsNoKey k (filter p ks) → IsNoKey k (if b then l ∷ filter p ks else filter p ks)
    go true rest = (h.0, rest)
    go false rest = rest

pub apart-filter : (p : Text → Bool) (ks : List Text) → AreApart ks → AreApart (filter p ks)
apart-filter p [] h = tt
apart-filter p (k ∷ ks) h = go (p k) (apart-filter p ks h.1)
  where
    go : (b : Bool) → AreApart (filter p ks) → AreApart (if b then k ∷ filter p ks else filter p ks)
    go true rest = (no_key-filter k p ks h.0, rest)
    go false rest = rest

pub others_apart : (k : Text) (ks : List Text) → IsNoKey k (filter (λ u. not (bytes_eq u k)) ks)
others_apart k [] = tt
others_apart k (l ∷ ks) = go (bytes_eq l k) refl (others_apart k ks)
  where
    rest : List Text
    rest = filter (λ u. not (bytes_eq u k)) ks

    go : (b : Bool) → bytes_eq l k ≡ b → IsNoKey k rest → IsNoKey k (if not b then l ∷ rest else rest)
    go true same h = h
    go false other h = (other, h)

-- these keys are absent
abbrev pub AreNew : List Text → Members → Type 0
AreNew [] ms = Unit {0}
AreNew (k ∷ ks) ms = (get_member k ms ≡ None) × AreNew ks ms

apart : (k l : Text) → bytes_eq l k ≡ false → l ≡ k → ⊥
apart k l e same = true≢false (sym ((bytes_eq-Decides l k).1 same) ∙ e)

pub still_new : (k : Text) (d : Data) (ks : List Text) (ms : Members) → IsNoKey k ks → AreNew ks ms → AreNew ks (put k d ms)
still_new k d [] ms other new = tt
still_new k d (l ∷ ls) ms other new =
    (get_member-put_other l k d ms (apart k l other.0) ∙ new.0, still_new k d ls ms other.1 new.1)

pub none_there : (ks : List Text) → AreNew ks no_members
none_there [] = tt
none_there (k ∷ ks) = (refl, none_there ks)
