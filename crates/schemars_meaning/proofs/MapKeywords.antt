-- Look-ups at keywords of a map with notes, and where members are put in, changed and united.
use Rattle.std.proofs.Common.{◌≡◌, List, [], ◌∷◌, ◌++◌, Option, Some, None, Bool, true, false, append-nil, refl, sym, ap, ◌∙◌, subst, true≢false}
use Rattle.schemars_meaning.proofs.Words.{bytes_eq-Decides, bytes_eq, codes, if◌then◌else◌, Data, boolean, string, array, object, Members, no_members, member, put, item, get_member, get_member-put, get_member-put_other, Text, put_all, put_members, object_of, replaced, without, is_annotation, AreNotes, get_member-later, differ, flipped, get_member-here, IsSorted, sorted-put, sorted-without, text_items, appended, united_option, united_none, Keyword, typed, annotated, changed_at, get_member-replaced, get_member-replaced_other, sorted-put_all, sorted-put_members, sorted-replaced, same_members, get_member-above, is_choice, united, with_united, with_choice, both_choices, with_keyword, united_here, united_beside, either_option}
use Rattle.schemars_flatten.specs.Flatten.{with_keywords}
use Rattle.schemars_meaning.proofs.MapDocument.{properties_keyword, required_keyword, closed_keyword, noted_by, AllNotes}

pub either_none : (a : Option Data) → either_option a None ≡ a
either_none None = refl
either_none (Some a) = refl

either_grouped : (a b c : Option Data) → either_option (either_option a b) c ≡ either_option a (either_option b c)
either_grouped None b c = refl
either_grouped (Some a) b c = refl

-- ---- members that are put in

-- what is put in wins
put_members-at : (q : Text) (ns ms : Members)
    → get_member q (put_members ns ms) ≡ either_option (get_member q (put_members ns no_members)) (get_member q ms)
put_members-at q no_members ms = refl
put_members-at q (member k d ns) ms = put_members-at q ns (put k d ms) ∙ (go (bytes_eq q k) refl
    ∙ ap (λ o. either_option o (get_member q ms)) (sym (put_members-at q ns (put k d no_members))))
  where
    go : (b : Bool) → bytes_eq q k ≡ b
        → either_option (get_member q (put_members ns no_members)) (get_member q (put k d ms))
        ≡ either_option (either_option (get_member q (put_members ns no_members)) (get_member q (put k d no_members))) (get_member q ms)
    go true is =
        let name = (bytes_eq-Decides q k).0 is in
        let first = ap (λ x. get_member x (put k d ms)) name ∙ get_member-put k d ms in
        let second = ap (λ x. get_member x (put k d no_members)) name ∙ get_member-put k d no_members in
        rw (first, second, either_grouped (get_member q (put_members ns no_members)) (Some d) (get_member q ms))
    go false is =
        let first = get_member-put_other q k d ms (differ q k is) in
        let second = get_member-put_other q k d no_members (differ q k is) in
        rw (first, second, either_none (get_member q (put_members ns no_members)))

pub put_all-append : (es fs : List Keyword) (ms : Members) → put_all (es ++ fs) ms ≡ put_all fs (put_all es ms)
put_all-append [] fs ms = refl
put_all-append (e ∷ es) fs ms = put_all-append es fs (put e.0 e.1 ms)

put_all-at : (q : Text) (es : List Keyword) (ms : Members)
    → get_member q (put_all es ms) ≡ either_option (get_member q (put_all es no_members)) (get_member q ms)
put_all-at q [] ms = refl
put_all-at q (e ∷ es) ms = put_all-at q es (put e.0 e.1 ms) ∙ (go (bytes_eq q e.0) refl
    ∙ ap (λ o. either_option o (get_member q ms)) (sym (put_all-at q es (put e.0 e.1 no_members))))
  where
    go : (b : Bool) → bytes_eq q e.0 ≡ b
        → either_option (get_member q (put_all es no_members)) (get_member q (put e.0 e.1 ms))
        ≡ either_option (either_option (get_member q (put_all es no_members)) (get_member q (put e.0 e.1 no_members))) (get_member q ms)
    go true is =
        let name = (bytes_eq-Decides q e.0).0 is in
        let first = ap (λ x. get_member x (put e.0 e.1 ms)) name ∙ get_member-put e.0 e.1 ms in
        let second = ap (λ x. get_member x (put e.0 e.1 no_members)) name ∙ get_member-put e.0 e.1 no_members in
        rw (first, second, either_grouped (get_member q (put_all es no_members)) (Some e.1) (get_member q ms))
    go false is =
        let first = get_member-put_other q e.0 e.1 ms (differ q e.0 is) in
        let second = get_member-put_other q e.0 e.1 no_members (differ q e.0 is) in
        rw (first, second, either_none (get_member q (put_all es no_members)))

-- sorted members put into nothing are the same members
put_members-alone : (ns : Members) → IsSorted ns → put_members ns no_members ≡ ns
put_members-alone ns h = same_members _ _ (sorted-put_members ns no_members tt) h (λ q. alone q ns h)
  where
    alone : (q : Text) (ns : Members) → IsSorted ns → get_member q (put_members ns no_members) ≡ get_member q ns
    alone q no_members h = refl
    alone q (member k d ns) h =
        put_members-at q ns (member k d no_members) ∙ (ap (λ o. either_option o (get_member q (member k d no_members))) (alone q ns h.1)
        ∙ go (bytes_eq q k) refl)
      where
        go : (b : Bool) → bytes_eq q k ≡ b
            → either_option (get_member q ns) (get_member q (member k d no_members)) ≡ get_member q (member k d ns)
        go true is =
            let name = (bytes_eq-Decides q k).0 is in
            let none = ap (λ x. get_member x ns) name ∙ get_member-above k ns h.0 in
            rw none
        go false is = rw (get_member-later q k d no_members is, get_member-later q k d ns is) (either_none (get_member q ns))

-- entries that are put in at once, or through members of their own
pub put_members-put_all : (es : List Keyword) (ms : Members) → IsSorted ms → put_members (put_all es no_members) ms ≡ put_all es ms
put_members-put_all es ms h = same_members _ _ (sorted-put_members (put_all es no_members) ms h) (sorted-put_all es ms h)
    (λ q. put_members-at q (put_all es no_members) ms
    ∙ (ap (λ ns. either_option (get_member q ns) (get_member q ms))
    (put_members-alone (put_all es no_members) (sorted-put_all es no_members tt))
    ∙ sym (put_all-at q es ms)))

-- ---- names of keywords

-- what holds at each of these names, and at each other one, holds at every name
pub by_name : (P : Text → Type 0) → P (codes "type") → P (codes "properties") → P (codes "required") → P (codes "additionalProperties")
    → P (codes "allOf") → P (codes "patternProperties")
    → ((q : Text) → bytes_eq q (codes "type") ≡ false → bytes_eq q (codes "properties") ≡ false → bytes_eq q (codes "required") ≡ false
    → bytes_eq q (codes "additionalProperties") ≡ false → bytes_eq q (codes "allOf") ≡ false
    → bytes_eq q (codes "patternProperties") ≡ false → P q)
    → (q : Text) → P q
by_name P type properties required closed all_of by_pattern other q =
    go _ _ _ _ _ _ refl refl refl refl refl refl
  where
    at : (k : Text) → bytes_eq q k ≡ true → P k → P q
    at k is h = subst P (sym ((bytes_eq-Decides q k).0 is)) h

    go : (t p r c a b : Bool) → bytes_eq q (codes "type") ≡ t → bytes_eq q (codes "properties") ≡ p → bytes_eq q (codes "required") ≡ r
        → bytes_eq q (codes "additionalProperties") ≡ c → bytes_eq q (codes "allOf") ≡ a → bytes_eq q (codes "patternProperties") ≡ b → P q
    go true p r c a b is_t is_p is_r is_c is_a is_b = at (codes "type") is_t type
    go false true r c a b is_t is_p is_r is_c is_a is_b = at (codes "properties") is_p properties
    go false false true c a b is_t is_p is_r is_c is_a is_b = at (codes "required") is_r required
    go false false false true a b is_t is_p is_r is_c is_a is_b = at (codes "additionalProperties") is_c closed
    go false false false false true b is_t is_p is_r is_c is_a is_b = at (codes "allOf") is_a all_of
    go false false false false false true is_t is_p is_r is_c is_a is_b = at (codes "patternProperties") is_b by_pattern
    go false false false false false false is_t is_p is_r is_c is_a is_b = other q is_t is_p is_r is_c is_a is_b

-- ---- notes

-- members with notes
abbrev pub noted : List Members → Members → Members
noted [] ms = ms
noted (notes ∷ more) ms = put_members notes (noted more ms)

pub noted_by-object : (notes : List Members) (ms : Members) → noted_by notes (object ms) ≡ object (noted notes ms)
noted_by-object [] ms = refl
noted_by-object (notes ∷ more) ms = ap (annotated notes) (noted_by-object more ms) ∙ go notes
  where
    go : (notes : Members) → annotated notes (object (noted more ms)) ≡ object (put_members notes (noted more ms))
    go no_members = refl
    go (member k d ns) = refl

pub sorted-noted : (notes : List Members) (ms : Members) → IsSorted ms → IsSorted (noted notes ms)
sorted-noted [] ms h = h
sorted-noted (notes ∷ more) ms h = sorted-put_members notes (noted more ms) (sorted-noted more ms h)

-- notes win
pub noted-at : (q : Text) (notes : List Members) (ms : Members)
    → get_member q (noted notes ms) ≡ either_option (get_member q (noted notes no_members)) (get_member q ms)
noted-at q [] ms = refl
noted-at q (notes ∷ more) ms =
    put_members-at q notes (noted more ms)
    ∙ (ap (either_option (get_member q (put_members notes no_members))) (noted-at q more ms)
    ∙ (sym (either_grouped (get_member q (put_members notes no_members)) (get_member q (noted more no_members)) (get_member q ms))
    ∙ ap (λ o. either_option o (get_member q ms)) (sym (put_members-at q notes (noted more no_members)))))

-- of keywords that say something, notes say nothing
pub put_members-beside : (q : Text) (notes ms : Members) → is_annotation q ≡ false → AreNotes notes
    → get_member q (put_members notes ms) ≡ get_member q ms
put_members-beside q no_members ms e h = refl
put_members-beside q (member k d notes) ms e h = put_members-beside q notes (put k d ms) e h.1
    ∙ get_member-put_other q k d ms (λ same. true≢false (sym h.0 ∙ (ap is_annotation (sym same) ∙ e)))

pub noted-beside : (q : Text) (notes : List Members) (ms : Members) → is_annotation q ≡ false → AllNotes notes
    → get_member q (noted notes ms) ≡ get_member q ms
noted-beside q [] ms e h = refl
noted-beside q (notes ∷ more) ms e h = put_members-beside q notes (noted more ms) e h.0 ∙ noted-beside q more ms e h.1

-- ---- the keywords of a map

abbrev pub keywords : List Keyword → List Text → Bool → Members
keywords es r closed =
    put_all (typed (codes "object") ∷ (properties_keyword es ++ (required_keyword r ++ closed_keyword closed))) no_members

unfoldable pub properties_there : List Keyword → Option Data
properties_there [] = None
properties_there (e ∷ es) = Some (object_of (e ∷ es))

unfoldable pub required_there : List Text → Option Data
required_there [] = None
required_there (k ∷ ks) = Some (array (text_items (k ∷ ks)))

unfoldable pub closed_there : Bool → Option Data
closed_there false = None
closed_there true = Some (boolean false)

pub sorted-keywords : (es : List Keyword) (r : List Text) (closed : Bool) → IsSorted (keywords es r closed)
sorted-keywords es r closed =
    sorted-put_all (typed (codes "object") ∷ (properties_keyword es ++ (required_keyword r ++ closed_keyword closed))) no_members tt

-- what holds of every combination of keywords
abbrev Keywords : (List Keyword → List Text → Bool → Type 0) → Type 0
Keywords P = (es : List Keyword) (r : List Text) (closed : Bool) → P es r closed

keywords-at : Keywords (λ es r closed. (get_member (codes "type") (keywords es r closed) ≡ Some (string (codes "object")))
    × (get_member (codes "properties") (keywords es r closed) ≡ properties_there es)
    × (get_member (codes "required") (keywords es r closed) ≡ required_there r)
    × (get_member (codes "additionalProperties") (keywords es r closed) ≡ closed_there closed))
unfolding properties_there required_there closed_there
keywords-at [] [] false = (refl, refl, refl, refl)
keywords-at [] [] true = (refl, refl, refl, refl)
keywords-at [] (k ∷ ks) false = (refl, refl, refl, refl)
keywords-at [] (k ∷ ks) true = (refl, refl, refl, refl)
keywords-at (e ∷ es) [] false = (refl, refl, refl, refl)
keywords-at (e ∷ es) [] true = (refl, refl, refl, refl)
keywords-at (e ∷ es) (k ∷ ks) false = (refl, refl, refl, refl)
keywords-at (e ∷ es) (k ∷ ks) true = (refl, refl, refl, refl)

pub type-at : Keywords (λ es r closed. get_member (codes "type") (keywords es r closed) ≡ Some (string (codes "object")))
type-at es r closed = (keywords-at es r closed).0

pub properties-at : Keywords (λ es r closed. get_member (codes "properties") (keywords es r closed) ≡ properties_there es)
properties-at es r closed = (keywords-at es r closed).1

pub required-at : Keywords (λ es r closed. get_member (codes "required") (keywords es r closed) ≡ required_there r)
required-at es r closed = (keywords-at es r closed).2

pub closed-at : Keywords (λ es r closed. get_member (codes "additionalProperties") (keywords es r closed) ≡ closed_there closed)
closed-at es r closed = (keywords-at es r closed).3

-- no other keyword is there
pub keyword-lacks : (q : Text) → bytes_eq q (codes "type") ≡ false → bytes_eq q (codes "properties") ≡ false
    → bytes_eq q (codes "required") ≡ false → bytes_eq q (codes "additionalProperties") ≡ false
    → Keywords (λ es r closed. get_member q (keywords es r closed) ≡ None)
keyword-lacks q no_type no_properties no_required no_closed es r closed =
    put_all-at q rest (put (codes "type") (string (codes "object")) no_members)
    ∙ rw (get_member-later q (codes "type") (string (codes "object")) no_members no_type) (
    either_none (get_member q (put_all rest no_members))
    ∙ (ap (get_member q) (put_all-append (properties_keyword es) (required_keyword r ++ closed_keyword closed) no_members)
    ∙ (put_all-at q (required_keyword r ++ closed_keyword closed) (put_all (properties_keyword es) no_members)
    ∙ rw (properties es) (either_none (get_member q (put_all (required_keyword r ++ closed_keyword closed) no_members))
    ∙ (ap (get_member q) (put_all-append (required_keyword r) (closed_keyword closed) no_members)
    ∙ (put_all-at q (closed_keyword closed) (put_all (required_keyword r) no_members)
    ∙ rw (required r) (either_none (get_member q (put_all (closed_keyword closed) no_members)) ∙ ends closed)))))))
  where
    rest : List Keyword
    rest = properties_keyword es ++ (required_keyword r ++ closed_keyword closed)

    properties : (es : List Keyword) → get_member q (put_all (properties_keyword es) no_members) ≡ None
    properties [] = refl
    properties (e ∷ es) = get_member-later q (codes "properties") (object_of (e ∷ es)) no_members no_properties

    required : (r : List Text) → get_member q (put_all (required_keyword r) no_members) ≡ None
    required [] = refl
    required (k ∷ ks) = get_member-later q (codes "required") (array (text_items (k ∷ ks))) no_members no_required

    ends : (closed : Bool) → get_member q (put_all (closed_keyword closed) no_members) ≡ None
    ends false = refl
    ends true = get_member-later q (codes "additionalProperties") (boolean false) no_members no_closed

-- ---- a member that is changed

unfoldable pub value_or : Data → Option Data → Data
value_or d None = d
value_or d (Some e) = e

pub changed_at-here : (k : Text) (f : Data → Data) (d : Data) (ms : Members)
    → get_member k (changed_at k f d ms) ≡ Some (f (value_or d (get_member k ms)))
unfolding value_or
changed_at-here k f d ms = go (get_member k ms) refl
  where
    go : (o : Option Data) → get_member k ms ≡ o
        → get_member k (elim o [ None ↦ put k (f d) ms | Some e ↦ replaced k (f e) ms ]) ≡ Some (f (value_or d o))
    go None is = get_member-put k (f d) ms
    go (Some e) is = get_member-replaced k (f e) e ms is

pub changed_at-beside : (q k : Text) (f : Data → Data) (d : Data) (ms : Members) → bytes_eq q k ≡ false
    → get_member q (changed_at k f d ms) ≡ get_member q ms
changed_at-beside q k f d ms other = go (get_member k ms)
  where
    go : (o : Option Data)
        → get_member q (elim o [ None ↦ put k (f d) ms | Some e ↦ replaced k (f e) ms ]) ≡ get_member q ms
    go None = get_member-put_other q k (f d) ms (differ q k other)
    go (Some e) = get_member-replaced_other q k (f e) ms other

pub sorted-changed_at : (k : Text) (f : Data → Data) (d : Data) (ms : Members) → IsSorted ms → IsSorted (changed_at k f d ms)
sorted-changed_at k f d ms h = go (get_member k ms)
  where
    go : (o : Option Data) → IsSorted (elim o [ None ↦ put k (f d) ms | Some e ↦ replaced k (f e) ms ])
    go None = sorted-put k (f d) ms h
    go (Some e) = sorted-replaced k (f e) ms h

-- ---- look-ups after keywords are put in one after another

-- a name that isn't there is not the first one, and isn't behind it
pub lacks-first : (q k : Text) (d : Data) (ms : Members) → get_member q (member k d ms) ≡ None → bytes_eq k q ≡ false
lacks-first q k d ms h = go (bytes_eq k q) refl
  where
    go : (b : Bool) → bytes_eq k q ≡ b → b ≡ false
    go true is =
        let found : None ≡ Some d = sym h ∙ (ap (λ x. get_member x (member k d ms)) (sym ((bytes_eq-Decides k q).0 is))
        ∙ get_member-here k d ms) in
        cc
    go false is = refl

pub lacks-later : (q k : Text) (d : Data) (ms : Members) → get_member q (member k d ms) ≡ None → get_member q ms ≡ None
lacks-later q k d ms h = sym (get_member-later q k d ms (flipped k q (lacks-first q k d ms h))) ∙ h

sorted-with_united : (k : Text) (d : Data) (ms : Members) → IsSorted ms → IsSorted (with_united k d ms)
sorted-with_united k d ms h = go (get_member k ms)
  where
    go : (o : Option Data) → IsSorted (elim o [ None ↦ put k d ms | Some e ↦ replaced k (united k e d) ms ])
    go None = sorted-put k d ms h
    go (Some e) = sorted-replaced k (united k e d) ms h

sorted-with_choice : (k : Text) (d : Data) (ms : Members) → IsSorted ms → IsSorted (with_choice k d ms)
sorted-with_choice k d ms h = go (get_member k ms)
  where
    go : (o : Option Data) → IsSorted (elim o [
      | None ↦ put k d ms
      | Some e ↦ with_united (codes "allOf") (both_choices k e d) (without k ms)
    ])
    go None = sorted-put k d ms h
    go (Some e) = sorted-with_united (codes "allOf") (both_choices k e d) (without k ms) (sorted-without k ms h)

sorted-with_keyword : (k : Text) (d : Data) (ms : Members) → IsSorted ms → IsSorted (with_keyword k d ms)
sorted-with_keyword k d ms h = go (is_choice k)
  where
    go : (b : Bool) → IsSorted (if b then with_choice k d ms else with_united k d ms)
    go true = sorted-with_choice k d ms h
    go false = sorted-with_united k d ms h

pub sorted-with_keywords : (ns ms : Members) → IsSorted ms → IsSorted (with_keywords ns ms)
sorted-with_keywords no_members ms h = h
sorted-with_keywords (member k d ns) ms h = sorted-with_keywords ns (with_keyword k d ms) (sorted-with_keyword k d ms h)

-- there is no choice
unfoldable pub NoChoice : Members → Type 0
NoChoice ms = (get_member (codes "oneOf") ms ≡ None) × (get_member (codes "anyOf") ms ≡ None)

keyword-united : (k : Text) (d : Data) (ns ms : Members) → NoChoice (member k d ns) → with_keyword k d ms ≡ with_united k d ms
unfolding NoChoice
keyword-united k d ns ms none = rw (
  lacks-first (codes "oneOf") k d ns none.0,
  lacks-first (codes "anyOf") k d ns none.1,
)

-- under each name, the two values as one
pub with_keywords-at : (q : Text) (ns ms : Members) → IsSorted ns → NoChoice ns
    → get_member q (with_keywords ns ms) ≡ united_option q (get_member q ms) (get_member q ns)
unfolding NoChoice
with_keywords-at q no_members ms h none = sym (united_none q (get_member q ms))
with_keywords-at q (member k d ns) ms h none =
    let fewer : NoChoice ns = (lacks-later (codes "oneOf") k d ns none.0, lacks-later (codes "anyOf") k d ns none.1) in
    with_keywords-at q ns (with_keyword k d ms) h.1 fewer
    ∙ (ap (λ x. united_option q (get_member q x) (get_member q ns)) (keyword-united k d ns ms none) ∙ go (bytes_eq q k) refl)
  where
    go : (b : Bool) → bytes_eq q k ≡ b
        → united_option q (get_member q (with_united k d ms)) (get_member q ns)
        ≡ united_option q (get_member q ms) (get_member q (member k d ns))
    go true is =
        let name = (bytes_eq-Decides q k).0 is in
        let gone : get_member q ns ≡ None = ap (λ x. get_member x ns) name ∙ get_member-above k ns h.0 in
        let put_in : get_member q (with_united k d ms) ≡ united_option q (get_member q ms) (Some d) =
        ap (λ x. get_member q (with_united x d ms)) (sym name) ∙ united_here q d ms in
        let here : get_member q (member k d ns) ≡ Some d = ap (λ x. get_member x (member k d ns)) name ∙ get_member-here k d ns in
        ap (united_option q (get_member q (with_united k d ms))) gone
        ∙ (united_none q (get_member q (with_united k d ms)) ∙ (put_in ∙ ap (united_option q (get_member q ms)) (sym here)))
    go false is =
        ap (λ o. united_option q o (get_member q ns)) (united_beside q k d ms is)
        ∙ ap (united_option q (get_member q ms)) (sym (get_member-later q k d ns is))

-- ---- keywords of two maps together

pub properties-united : (es fs : List Keyword)
    → united_option (codes "properties") (properties_there es) (properties_there fs) ≡ properties_there (es ++ fs)
unfolding properties_there
properties-united [] fs = refl
properties-united (e ∷ es) [] = ap properties_there (sym (append-nil (e ∷ es)))
properties-united (e ∷ es) (f ∷ fs) = ap (λ ms. Some (object ms))
    (put_members-put_all (f ∷ fs) (put_all (e ∷ es) no_members) (sorted-put_all (e ∷ es) no_members tt)
    ∙ sym (put_all-append (e ∷ es) (f ∷ fs) no_members))

texts-appended : (ks ls : List Text) → appended (text_items ks) (text_items ls) ≡ text_items (ks ++ ls)
texts-appended [] ls = refl
texts-appended (k ∷ ks) ls = ap (item (string k)) (texts-appended ks ls)

pub required-united : (ks ls : List Text)
    → united_option (codes "required") (required_there ks) (required_there ls) ≡ required_there (ks ++ ls)
unfolding required_there
required-united [] ls = refl
required-united (k ∷ ks) [] = ap required_there (sym (append-nil (k ∷ ks)))
required-united (k ∷ ks) (l ∷ ls) = ap (λ ds. Some (array ds)) (texts-appended (k ∷ ks) (l ∷ ls))
