-- What an object says depends only on the values of its keywords.
use Rattle.std.proofs.Common.{◌≡◌, List, [], ◌∷◌, Option, Some, None, Bool, true, false, Ordering, Less, Equal, Greater, refl, sym, ap, ◌∙◌, option_map, is_eq, true≢false, nat_cmp}
use Rattle.schemars_schema.proofs.Words.{fun_ext, bytes_eq, if◌then◌else◌, ◌||◌, ◌&&◌, not, match_ordering, slice_cmp, is_eq-slice_cmp, bytes_eq-Decides, and_parts, not-true, Data, boolean, object, Members, no_members, member, put, get_member, get_member-put_other, Text, IsSchema, is_listed, Context, Judge, Reading, Raw, judge, read_data, read_members, reading_at, keywords, all_keywords, is_annotation, keyword_names}

found : (o : Ordering) (b : Bool) (e : Reading) (rest : Option Reading) → is_eq o ≡ b
    → (if b then Some e else rest) ≡ match_ordering o rest (Some e) rest
found Less b e rest is = rw (← is)
found Equal b e rest is = rw (← is)
found Greater b e rest is = rw (← is)

mapped : (o : Ordering) (f : Data → Reading) (a b c : Option Data) → match_ordering o (option_map f a) (option_map f b) (option_map f c)
    ≡ option_map f (match_ordering o a b c)
mapped Less f a b c = refl
mapped Equal f a b c = refl
mapped Greater f a b c = refl

-- the members read are the members, read
pub reading_at-members : (c : Context) (ms : Members) (k : Text) → reading_at (read_members c ms) k
    ≡ option_map (read_data c) (get_member k ms)
unfolding read_data
reading_at-members c no_members k = refl
reading_at-members c (member l d ms) k =
    found (slice_cmp nat_cmp k l) (bytes_eq k l) (read_data c d) _ (is_eq-slice_cmp k l)
    ∙ (rw (reading_at-members c ms k) (mapped (slice_cmp nat_cmp k l) (read_data c) (get_member k ms) (Some d) (get_member k ms)))

-- an object by its look-ups
unfoldable pub says : Context → Raw → Judge
says c raw = keywords c raw (λ k. option_map (read_data c) (raw k))

pub judge-object : (c : Context) (ms : Members) → judge c (object ms) ≡ says c (λ k. get_member k ms)
unfolding read_data says
judge-object c ms = ap (keywords c (λ k. get_member k ms)) (fun_ext (reading_at-members c ms))

pub schema-judge : (c : Context) (t : Data) → IsSchema t → (read_data c t).schema ≡ Some (judge c t)
unfolding read_data
schema-judge c (boolean b) is = refl
schema-judge c (object ms) is = refl
schema-judge c _ is = absurd is

-- ---- what is no keyword says nothing

abbrev pub IsKeyword : Text → Type 0
IsKeyword k = is_listed k keyword_names ≡ true

-- the look-ups at keywords alone
abbrev at_keywords : Raw → Raw
at_keywords g k = if is_listed k keyword_names then g k else None

says-at_keywords : (c : Context) (g : Raw) → says c (at_keywords g) ≡ says c g
unfolding says all_keywords
says-at_keywords c g = refl

at_keywords-agree : (g h : Raw) → ((k : Text) → IsKeyword k → g k ≡ h k) → (k : Text) → at_keywords g k ≡ at_keywords h k
at_keywords-agree g h e k = go (is_listed k keyword_names) refl
  where
    go : (b : Bool) → is_listed k keyword_names ≡ b → (if b then g k else None) ≡ (if b then h k else None)
    go true is = e k is
    go false is = refl

pub says-agree : (c : Context) (g h : Raw) → ((k : Text) → IsKeyword k → g k ≡ h k) → says c g ≡ says c h
says-agree c g h e = sym (says-at_keywords c g) ∙ (ap (says c) (fun_ext (at_keywords-agree g h e)) ∙ says-at_keywords c h)

pub judge-agree : (c : Context) (ms ns : Members) → ((k : Text) → IsKeyword k → get_member k ms ≡ get_member k ns)
    → judge c (object ms) ≡ judge c (object ns)
judge-agree c ms ns e = judge-object c ms ∙ (says-agree c (λ k. get_member k ms) (λ k. get_member k ns) e ∙ sym (judge-object c ns))

-- ---- annotations are no keywords

-- none of the texts is an annotation
abbrev pub without_annotations : List Text → Bool
without_annotations [] = true
without_annotations (l ∷ ls) = not (is_annotation l) && without_annotations ls

pub listed_plain : (k : Text) (ls : List Text) → without_annotations ls ≡ true → is_listed k ls ≡ true → is_annotation k ≡ false
listed_plain k [] all is = absurd (true≢false (sym is))
listed_plain k (l ∷ ls) all is = go (bytes_eq k l) refl is (listed_plain k ls parts.1)
  where
    parts : (not (is_annotation l) ≡ true) × (without_annotations ls ≡ true)
    parts = and_parts (not (is_annotation l)) (without_annotations ls) all

    go : (b : Bool) → bytes_eq k l ≡ b → b || is_listed k ls ≡ true → (is_listed k ls ≡ true → is_annotation k ≡ false)
        → is_annotation k ≡ false
    go true same is later = rw ((bytes_eq-Decides k l).0 same) (not-true (is_annotation l) parts.0)
    go false same is later = later is

pub keyword-plain : (k : Text) → IsKeyword k → is_annotation k ≡ false
keyword-plain k is = listed_plain k keyword_names refl is

-- no keyword that is read
abbrev pub IsSilent : Text → Type 0
IsSilent k = is_listed k keyword_names ≡ false

pub annotation-silent : (k : Text) → is_annotation k ≡ true → IsSilent k
annotation-silent k note = go (is_listed k keyword_names) refl
  where
    go : (b : Bool) → is_listed k keyword_names ≡ b → b ≡ false
    go true is = absurd (true≢false (sym note ∙ keyword-plain k is))
    go false is = refl

pub apart : (k l : Text) → IsKeyword k → IsSilent l → k ≡ l → ⊥
apart k l is silent same = true≢false (sym is ∙ (ap (λ x. is_listed x keyword_names) same ∙ silent))

pub judge-put : (c : Context) (k : Text) (d : Data) (ms : Members) → IsSilent k → judge c (object (put k d ms)) ≡ judge c (object ms)
judge-put c k d ms is = judge-agree c (put k d ms) ms (λ l key. get_member-put_other l k d ms (apart l k key is))

-- no annotation is listed among other keywords
pub annotation-not_listed : (k : Text) (ls : List Text) → without_annotations ls ≡ true → is_annotation k ≡ true → is_listed k ls ≡ false
annotation-not_listed k ls all note = go (is_listed k ls) refl
  where
    go : (b : Bool) → is_listed k ls ≡ b → b ≡ false
    go true is = absurd (true≢false (sym note ∙ listed_plain k ls all is))
    go false is = refl
