-- What is found in members after others are put in.
use Rattle.std.proofs.Common.{◌≡◌, Option, Some, None, Bool, true, false, refl, sym, ap, ◌∙◌, true≢false}
use Rattle.schemars_flatten.proofs.Words.{bytes_eq-Decides, and_parts, ◌||◌, bytes_eq, codes, if◌then◌else◌, is_some, not, Data, Members, no_members, member, put, get_member, get_member-put, get_member-put_other, Text, put_members, replaced, differ, get_member-later, get_member-member, get_member-replaced, get_member-replaced_other, contains_key, is_choice, united, with_united, with_keyword, with_keywords, moved_beside, united_all, has_keys_once, is_object_keyword, are_object_keywords, are_apart}

-- ---- look-ups by the equality of keys

abbrev at : Text → Members → Option Data
at k no_members = None
at k (member l e ms) = if bytes_eq k l then Some e else at k ms

get_member-at : (k : Text) (ms : Members) → get_member k ms ≡ at k ms
get_member-at k no_members = refl
get_member-at k (member l e ms) = get_member-member k l e ms ∙ ap (λ o. if bytes_eq k l then Some e else o) (get_member-at k ms)

-- ---- one keyword

-- what stands under a key of either side
abbrev pub united_option : Text → Option Data → Option Data → Option Data
united_option k None b = b
united_option k (Some e) None = Some e
united_option k (Some e) (Some d) = Some (united k e d)

pub united_none : (k : Text) (a : Option Data) → united_option k a None ≡ a
united_none k None = refl
united_none k (Some e) = refl

pub united_here : (k : Text) (d : Data) (ms : Members)
    → get_member k (with_united k d ms) ≡ united_option k (get_member k ms) (Some d)
united_here k d ms = go (get_member k ms) refl
  where
    go : (o : Option Data) → get_member k ms ≡ o
        → get_member k (elim o [ None ↦ put k d ms | Some e ↦ replaced k (united k e d) ms ])
        ≡ united_option k o (Some d)
    go None is = get_member-put k d ms
    go (Some e) is = get_member-replaced k (united k e d) e ms is

pub united_beside : (q k : Text) (d : Data) (ms : Members) → bytes_eq q k ≡ false
    → get_member q (with_united k d ms) ≡ get_member q ms
united_beside q k d ms other = go (get_member k ms)
  where
    go : (o : Option Data) → get_member q (elim o [ None ↦ put k d ms | Some e ↦ replaced k (united k e d) ms ])
        ≡ get_member q ms
    go None = get_member-put_other q k d ms (differ q k other)
    go (Some e) = get_member-replaced_other q k (united k e d) ms other

-- ---- keywords of objects

pub keyword_at : (q : Text) (ms : Members) (e : Data) → are_object_keywords ms ≡ true → get_member q ms ≡ Some e
    → is_object_keyword q e ≡ true
keyword_at q ms e all h = go ms all (sym (get_member-at q ms) ∙ h)
  where
    go : (ns : Members) → are_object_keywords ns ≡ true → at q ns ≡ Some e → is_object_keyword q e ≡ true
    go no_members all h = cc
    go (member k d ns) all h =
        let parts = and_parts (is_object_keyword k d) (are_object_keywords ns) all in
        step (bytes_eq q k) refl h parts.0 (go ns parts.1)
      where
        step : (b : Bool) → bytes_eq q k ≡ b → (if b then Some d else at q ns) ≡ Some e → is_object_keyword k d ≡ true
            → (at q ns ≡ Some e → is_object_keyword q e ≡ true) → is_object_keyword q e ≡ true
        step true is h here later =
            let value : d ≡ e = cc in
            ap (λ x. is_object_keyword x e) ((bytes_eq-Decides q k).0 is)
            ∙ (ap (is_object_keyword k) (sym value) ∙ here)
        step false is h here later = later h

pub lacks : (q : Text) (ms : Members) → are_object_keywords ms ≡ true → ((d : Data) → is_object_keyword q d ≡ false)
    → get_member q ms ≡ None
lacks q ms all never = go (get_member q ms) refl
  where
    go : (o : Option Data) → get_member q ms ≡ o → o ≡ None
    go None is = refl
    go (Some e) is = absurd (true≢false (sym (keyword_at q ms e all is) ∙ never e))

no_choice : (k : Text) (d : Data) → is_object_keyword k d ≡ true → is_choice k ≡ false
no_choice k d h = go (bytes_eq k (codes "oneOf")) (bytes_eq k (codes "anyOf")) refl refl
  where
    go : (a b : Bool) → bytes_eq k (codes "oneOf") ≡ a → bytes_eq k (codes "anyOf") ≡ b → a || (b || false) ≡ false
    go true b is also =
        absurd (true≢false (sym h ∙ ap (λ x. is_object_keyword x d) ((bytes_eq-Decides k (codes "oneOf")).0 is)))
    go false true is also =
        absurd (true≢false (sym h ∙ ap (λ x. is_object_keyword x d) ((bytes_eq-Decides k (codes "anyOf")).0 also)))
    go false false is also = refl

not_there : (k : Text) (ms : Members) → not (contains_key k ms) ≡ true → get_member k ms ≡ None
not_there k ms h = go (get_member k ms) h
  where
    go : (o : Option Data) → not (is_some o) ≡ true → o ≡ None
    go None h = refl
    go (Some e) h = absurd (true≢false (sym h))

pub here_first : (q k : Text) (d : Data) (ms : Members) → bytes_eq q k ≡ true → get_member q (member k d ms) ≡ Some d
here_first q k d ms is = get_member-at q (member k d ms) ∙ rw is refl

keyword_put : (k : Text) (d : Data) (ms : Members) → is_object_keyword k d ≡ true
    → with_keyword k d ms ≡ with_united k d ms
keyword_put k d ms h = rw (no_choice k d h) refl

pub keywords_at : (q : Text) (ns ms : Members) → are_object_keywords ns ≡ true → has_keys_once ns ≡ true
    → get_member q (with_keywords ns ms) ≡ united_option q (get_member q ms) (get_member q ns)
keywords_at q no_members ms all once = sym (united_none q (get_member q ms))
keywords_at q (member k d ns) ms all once =
    let plain = and_parts (is_object_keyword k d) (are_object_keywords ns) all in
    let alone = and_parts (not (contains_key k ns)) (has_keys_once ns) once in
    let rest = keywords_at q ns (with_keyword k d ms) plain.1 alone.1 in
    rest ∙ (ap (λ x. united_option q (get_member q x) (get_member q ns)) (keyword_put k d ms plain.0)
    ∙ go (bytes_eq q k) refl (not_there k ns alone.0))
  where
    go : (b : Bool) → bytes_eq q k ≡ b → get_member k ns ≡ None
        → united_option q (get_member q (with_united k d ms)) (get_member q ns)
        ≡ united_option q (get_member q ms) (get_member q (member k d ns))
    go true is none =
        let same = (bytes_eq-Decides q k).0 is in
        let gone : get_member q ns ≡ None = ap (λ x. get_member x ns) same ∙ none in
        let put_in : get_member q (with_united k d ms) ≡ united_option q (get_member q ms) (Some d) =
        ap (λ x. get_member q (with_united x d ms)) (sym same) ∙ united_here q d ms in
        ap (united_option q (get_member q (with_united k d ms))) gone
        ∙ (united_none q (get_member q (with_united k d ms)) ∙ (put_in
        ∙ ap (united_option q (get_member q ms)) (sym (here_first q k d ns is))))
    go false is none =
        ap (λ o. united_option q o (get_member q ns)) (united_beside q k d ms is)
        ∙ ap (united_option q (get_member q ms)) (sym (get_member-later q k d ns is))

-- ---- properties

-- the first that is there
abbrev pub either_option : Option Data → Option Data → Option Data
either_option None b = b
either_option (Some a) b = Some a

pub properties_at : (q : Text) (ns ms : Members) → has_keys_once ns ≡ true
    → get_member q (put_members ns ms) ≡ either_option (get_member q ns) (get_member q ms)
properties_at q no_members ms once = refl
properties_at q (member k d ns) ms once =
    let alone = and_parts (not (contains_key k ns)) (has_keys_once ns) once in
    properties_at q ns (put k d ms) alone.1 ∙ go (bytes_eq q k) refl (not_there k ns alone.0)
  where
    go : (b : Bool) → bytes_eq q k ≡ b → get_member k ns ≡ None
        → either_option (get_member q ns) (get_member q (put k d ms))
        ≡ either_option (get_member q (member k d ns)) (get_member q ms)
    go true is none =
        let same = (bytes_eq-Decides q k).0 is in
        let gone : get_member q ns ≡ None = ap (λ x. get_member x ns) same ∙ none in
        let put_in : get_member q (put k d ms) ≡ Some d = ap (λ x. get_member x (put k d ms)) same
        ∙ get_member-put k d ms in
        ap (λ o. either_option o (get_member q (put k d ms))) gone
        ∙ (put_in ∙ ap (λ o. either_option o (get_member q ms)) (sym (here_first q k d ns is)))
    go false is none =
        ap (either_option (get_member q ns)) (get_member-put_other q k d ms (differ q k is))
        ∙ ap (λ o. either_option o (get_member q ms)) (sym (get_member-later q k d ns is))

pub apart_at : (q : Text) (ms ns : Members) (d : Data) → are_apart ms ns ≡ true → get_member q ns ≡ Some d
    → get_member q ms ≡ None
apart_at q ms ns d apart h = go ns apart (sym (get_member-at q ns) ∙ h)
  where
    go : (ls : Members) → are_apart ms ls ≡ true → at q ls ≡ Some d → get_member q ms ≡ None
    go no_members apart h = cc
    go (member k e ls) apart h =
        let parts = and_parts (not (contains_key k ms)) (are_apart ms ls) apart in
        step (bytes_eq q k) refl h (not_there k ms parts.0) (go ls parts.1)
      where
        step : (b : Bool) → bytes_eq q k ≡ b → (if b then Some e else at q ls) ≡ Some d → get_member k ms ≡ None
            → (at q ls ≡ Some d → get_member q ms ≡ None) → get_member q ms ≡ None
        step true is h none later = ap (λ x. get_member x ms) ((bytes_eq-Decides q k).0 is) ∙ none
        step false is h none later = later h

-- ---- nothing is moved

kept : (others ms : Members) → are_object_keywords others ≡ true → moved_beside others ms ≡ ms
kept others ms all =
    rw (
      lacks (codes "unevaluatedProperties") others all (λ d. refl),
      lacks (codes "if") others all (λ d. refl),
      lacks (codes "allOf") others all (λ d. refl),
      lacks (codes "anyOf") others all (λ d. refl),
      lacks (codes "oneOf") others all (λ d. refl),
      lacks (codes "$ref") others all (λ d. refl),
    ) refl

pub united_plain : (ms ns : Members) → are_object_keywords ms ≡ true → are_object_keywords ns ≡ true
    → united_all ms ns ≡ with_keywords ns ms
united_plain ms ns first second =
    ap (λ x. with_keywords (moved_beside x ns) x) (kept ns ms second) ∙ ap (λ x. with_keywords x ms) (kept ms ns first)
