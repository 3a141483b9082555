-- Each built-in transform is idle where nothing is needed that it looks for.
use Rattle.std.proofs.Common.{◌≡◌, ◌⊎◌, inl, inr, List, [], ◌∷◌, Bool, true, false, Some, None, Ok, codes, refl, sym, ap, ◌∙◌, subst}
use Rattle.schemars_transform.proofs.Words.{or_parts, and_parts, bytes_eq-Decides, ⊤, ◌==◌, ◌&&◌, ◌||◌, not, is_some, if◌then◌else◌, bytes_eq, Data, boolean, string, array, object, Members, no_members, member, members_len, get_member, as_bool, Text, without, Place, NoSchemas, OneSchema, SchemaList, SchemaOrList, SchemasByName, place_under, get_member-later, get_member-member, TransformStep, InOrder, everywhere, all_changed, form_at, forms, bool_rules, replace_bool_schemas, reference_moved, without_siblings, first_as_example, with_single_example, value_as_enum, const_as_enum, prefix_moved, prefix_as_items, has_null, nulls_in, nullable_by, with_nullable, closed_by, unevaluated_as_additional, OfMember, function_of, made_by, keyword_named, is_changed, with_keyword, place_asked, needs_of, is_idle, are_idle}
use Rattle.schemars_transform.specs.declared.built_in.bool_schemas.ReplaceBoolSchemas as bools
use Rattle.schemars_transform.specs.declared.built_in.nullable.AddNullable as nullable
use Rattle.schemars_transform.specs.declared.built_in.nullable.Nulls.TheVariants.{Missing}
use Rattle.schemars_transform.specs.declared.gen_transform.GenTransform.{GenTransform}
use Rattle.schemars_transform.specs.declared.gen_transform.GenTransform.TheVariants.{ReplaceBoolSchemas, RemoveRefSiblings, SetSingleExample, ReplaceConstValue, ReplacePrefixItems, AddNullable, ReplaceUnevaluatedProperties, RestrictFormats, Own}
use Rattle.schemars_transform.specs.declared.needs.Needs.{Needs}
use Rattle.schemars_transform.specs.declared.needs.Keyword.{Keyword}
use Rattle.schemars_transform.specs.declared.needs.Keyword.TheVariants.{Other, Additional, Reference, Examples, Const, PrefixItems, Types, Unevaluated}
use Rattle.schemars_transform.proofs.Idle.{AllKeywords, keyword_needs, Idles, idle}

-- ---- keywords

-- whether a keyword has been noted
abbrev flag : Keyword → Needs → Bool
flag Other n = false
flag Additional n = n.additional
flag Reference n = n.reference
flag Examples n = n.examples
flag Const n = n.constant
flag PrefixItems n = n.prefix_items
flag Types n = n.null_type
flag Unevaluated n = n.unevaluated

-- what was noted before stays so
before : (v w : Keyword) (b : Bool) (n : Needs) → flag v (with_keyword w b n) ≡ false → flag v n ≡ false
before Additional Additional b n h = (or_parts n.additional b h).0
before Reference Reference b n h = (or_parts n.reference b h).0
before Examples Examples b n h = (or_parts n.examples b h).0
before Const Const b n h = (or_parts n.constant b h).0
before PrefixItems PrefixItems b n h = (or_parts n.prefix_items b h).0
before Types Types b n h = (or_parts n.null_type b h).0
before Unevaluated Unevaluated b n h = (or_parts n.unevaluated b h).0
before _ _ b n h = h

here : (v : Keyword) (alone : Bool) (d : Data) (n : Needs) → flag v (with_keyword v (is_changed v alone d) n) ≡ false
    → is_changed v alone d ≡ false
here Other alone d n h = refl
here Additional alone d n h = (or_parts n.additional (is_some (as_bool d)) h).1
here Reference alone d n h = (or_parts n.reference (not alone) h).1
here Examples alone d n h = (or_parts n.examples true h).1
here Const alone d n h = (or_parts n.constant true h).1
here PrefixItems alone d n h = (or_parts n.prefix_items true h).1
here Types alone d n h = (or_parts n.null_type (has_null d) h).1
here Unevaluated alone d n h = (or_parts n.unevaluated true h).1

beside_truth : (v : Keyword) (n : Needs) → flag v (record n { truth_value = true }) ≡ false → flag v n ≡ false
beside_truth Other n h = refl
beside_truth _ n h = h

-- its value is not changed where it is this keyword
abbrev Ignores : Keyword → Bool → Text → Data → Type 0
Ignores v alone k d = keyword_named k ≡ v → is_changed v alone d ≡ false

noted : (v : Keyword) (alone : Bool) (k : Text) (d : Data) (n : Needs) → flag v (keyword_needs alone k d n) ≡ false
    → (flag v n ≡ false) × Ignores v alone k d
noted v alone k d n h = (
  before v (keyword_named k) (is_changed (keyword_named k) alone d) n h,
  λ is. here v alone d n (subst (λ w. flag v (with_keyword w (is_changed w alone d) n) ≡ false) is h),
)

same_name : (q k : Text) → bytes_eq q k ≡ true → keyword_named k ≡ keyword_named q
same_name q k is = ap keyword_named (sym ((bytes_eq-Decides q k).0 is))

-- a keyword that changes whatever it has is not there
lacking : (q : Text) (v : Keyword) (alone : Bool) → keyword_named q ≡ v → ((d : Data) → is_changed v alone d ≡ true)
    → (ms : Members) → AllKeywords (Ignores v alone) ms → (get_member q ms ≡ None) × (without q ms ≡ ms)
lacking q v alone is changes no_members h = (refl, refl)
lacking q v alone is changes (member k d ms) h = go (bytes_eq q k) refl (lacking q v alone is changes ms h.1)
  where
    go : (b : Bool) → bytes_eq q k ≡ b → (get_member q ms ≡ None) × (without q ms ≡ ms)
        → (get_member q (member k d ms) ≡ None) × ((if b then ms else member k d (without q ms)) ≡ member k d ms)
    go true at later = let never : true ≡ false = sym (changes d) ∙ h.0 (same_name q k at ∙ is) in cc
    go false at later = (get_member-later q k d ms at ∙ later.0, ap (member k d) later.1)

-- ---- changes that are the same at every schema

truth_at : (change : Data → Data) (b : Bool) → change (boolean b) ≡ boolean b → (p : Place)
    → form_at p (boolean b) (forms (everywhere {R = Unit {0}} (λ r s. change s)) tt (boolean b)) ≡ boolean b
unfolding forms
truth_at change b same NoSchemas = refl
truth_at change b same OneSchema = same
truth_at change b same SchemaList = refl
truth_at change b same SchemaOrList = same
truth_at change b same SchemasByName = refl

unasked : (b : Bool) (p : Place) → p ≡ (if b && false then NoSchemas else p)
unasked true p = refl
unasked false p = refl

module _ (v : Keyword) (change : Data → Data) (truth : (b : Bool) → change (boolean b) ≡ boolean b)
    (of_object : (ms : Members) → AllKeywords (Ignores v (members_len ms == 1)) ms → change (object ms) ≡ object ms) where
  places : (k : Text) (d : Data) → (place_under k ≡ place_asked k d)
      ⊎ (form_at (place_under k) d (forms (everywhere {R = Unit {0}} (λ r s. change s)) tt d) ≡ d)
  places k (boolean b) = inr (truth_at change b (truth b) (place_under k))
  places k _ = inl (unasked (bytes_eq k (codes "additionalProperties")) (place_under k))

  idles : Idles (everywhere {R = Unit {0}} (λ r s. change s)) tt (λ n. flag v n ≡ false) (Ignores v)
  idles = record {
    inside = λ d. refl;
    place = λ alone k d i. places k d;
    keyword = noted v;
    of_truth = λ b n w. (beside_truth v n w, truth b);
    of_object = of_object;
  }

  idle_change : (s : Data) → flag v (needs_of s) ≡ false → all_changed change s ≡ s
  idle_change s w = idle (everywhere (λ r s. change s)) tt (λ n. flag v n ≡ false) (Ignores v) idles s w

examples_stay : (ms : Members) → AllKeywords (Ignores Examples (members_len ms == 1)) ms → with_single_example (object ms) ≡ object ms
examples_stay ms h =
    let l = lacking (codes "examples") Examples (members_len ms == 1) refl (λ d. refl) ms h in
    ap (λ o. first_as_example o (object (without (codes "examples") ms))) l.0 ∙ ap object l.1

const_stays : (ms : Members) → AllKeywords (Ignores Const (members_len ms == 1)) ms → const_as_enum (object ms) ≡ object ms
const_stays ms h =
    let l = lacking (codes "const") Const (members_len ms == 1) refl (λ d. refl) ms h in
    ap (λ o. value_as_enum o (object (without (codes "const") ms))) l.0 ∙ ap object l.1

prefix_stays : (ms : Members) → AllKeywords (Ignores PrefixItems (members_len ms == 1)) ms → prefix_as_items (object ms) ≡ object ms
prefix_stays ms h =
    let l = lacking (codes "prefixItems") PrefixItems (members_len ms == 1) refl (λ d. refl) ms h in
    ap (λ o. prefix_moved o (object (without (codes "prefixItems") ms))) l.0 ∙ ap object l.1

unevaluated_stays : (ms : Members) → AllKeywords (Ignores Unevaluated (members_len ms == 1)) ms
    → unevaluated_as_additional (object ms) ≡ object ms
unevaluated_stays ms h =
    let l = lacking (codes "unevaluatedProperties") Unevaluated (members_len ms == 1) refl (λ d. refl) ms h in
    ap (λ o. closed_by o (object (without (codes "unevaluatedProperties") ms))) l.0 ∙ ap object l.1

reference_stays : (ms : Members) → AllKeywords (Ignores Reference (members_len ms == 1)) ms → without_siblings (object ms) ≡ object ms
reference_stays ms h = go (members_len ms == 1) h
  where
    go : (b : Bool) → AllKeywords (Ignores Reference b) ms
        → (if b then object ms else reference_moved (get_member (codes "$ref") ms) (object (without (codes "$ref") ms))) ≡ object ms
    go true i = refl
    go false i =
        let l = lacking (codes "$ref") Reference false refl (λ d. refl) ms i in
        ap (λ o. reference_moved o (object (without (codes "$ref") ms))) l.0 ∙ ap object l.1

-- ---- null among types

no_null : (d : Data) → has_null d ≡ false → nulls_in (Some d) ≡ Missing
no_null (string s) h = rw h refl
no_null (array ds) h = rw h refl
no_null _ h = refl

no_null_type : (alone : Bool) (ms : Members) → AllKeywords (Ignores Types alone) ms → nulls_in (get_member (codes "type") ms) ≡ Missing
no_null_type alone no_members h = refl
no_null_type alone (member k d ms) h =
    ap nulls_in (get_member-member (codes "type") k d ms) ∙ go (bytes_eq (codes "type") k) refl (no_null_type alone ms h.1)
  where
    go : (b : Bool) → bytes_eq (codes "type") k ≡ b → nulls_in (get_member (codes "type") ms) ≡ Missing
        → nulls_in (if b then Some d else get_member (codes "type") ms) ≡ Missing
    go true at later = no_null d (h.0 (same_name (codes "type") k at))
    go false at later = later

types_stay : (t : nullable.AddNullable) (ms : Members) → AllKeywords (Ignores Types (members_len ms == 1)) ms
    → with_nullable t (object ms) ≡ object ms
types_stay t ms h = ap (λ x. nullable_by t x (object ms)) (no_null_type (members_len ms == 1) ms h)

-- ---- truth values

module _ (t : bools.ReplaceBoolSchemas) where
  abbrev NoTruth : Needs → Type 0
  NoTruth n = (n.truth_value ≡ false) × (t.skip_additional_properties ≡ false → n.additional ≡ false)

  abbrev NoAdditional : Bool → Text → Data → Type 0
  NoAdditional alone k d = t.skip_additional_properties ≡ false → Ignores Additional alone k d

  truth_before : (w : Keyword) (b : Bool) (n : Needs) → (with_keyword w b n).truth_value ≡ false → n.truth_value ≡ false
  truth_before Other b n h = h
  truth_before _ b n h = h

  asked_alike : (skip b has : Bool) (p : Place) → (skip ≡ false → b ≡ true → has ≡ false)
      → (if skip && (b && has) then NoSchemas else p) ≡ (if b && has then NoSchemas else p)
  asked_alike true b has p h = refl
  asked_alike false true has p h = rw (h refl refl) refl
  asked_alike false false has p h = refl

  bool_idles : Idles bool_rules t NoTruth NoAdditional
  bool_idles = record {
    inside = λ d. refl;
    place = λ alone k d i. inl (asked_alike t.skip_additional_properties (bytes_eq k (codes "additionalProperties")) (is_some
        (as_bool d)) (place_under k) (λ off at. i off (ap keyword_named ((bytes_eq-Decides k (codes "additionalProperties")).0 at))));
    keyword = λ alone k d n w. (
      (truth_before (keyword_named k) (is_changed (keyword_named k) alone d) n w.0, λ off. (noted Additional alone k d n (w.1 off)).0),
      λ off. (noted Additional alone k d n (w.1 off)).1,
    );
    of_truth = λ b n w. let never : true ≡ false = w.0 in cc;
    of_object = λ ms h. refl;
  }

  idle_bools : (s : Data) → NoTruth (needs_of s) → replace_bool_schemas t s ≡ s
  idle_bools s w = idle bool_rules t NoTruth NoAdditional bool_idles s w

-- ---- any of them

is_off : (b : Bool) → not b ≡ true → b ≡ false
is_off true h = cc
is_off false h = refl

both_off : (truth skip additional : Bool) → (not truth && (skip || not additional)) ≡ true
    → (truth ≡ false) × (skip ≡ false → additional ≡ false)
both_off true skip additional h = cc
both_off false true additional h = (refl, λ off. cc)
both_off false false additional h = (refl, λ off. is_off additional h)

-- what is idle may as well have been called
pub idle_member : {O : Type 0} (Q : TransformStep O) (t : GenTransform O) (s : Data) → is_idle t (needs_of s) ≡ true
    → OfMember Q t s (Ok tt) t s
idle_member Q (ReplaceBoolSchemas t) s h = (
  refl,
  sym (idle_bools t s (both_off (needs_of s).truth_value
      t.skip_additional_properties (needs_of s).additional h)),
)
idle_member Q (RemoveRefSiblings t) s h =
    (refl, sym (idle_change Reference without_siblings (λ b. refl) reference_stays s (is_off (needs_of s).reference h)))
idle_member Q (SetSingleExample t) s h =
    (refl, sym (idle_change Examples with_single_example (λ b. refl) examples_stay s (is_off (needs_of s).examples h)))
idle_member Q (ReplaceConstValue t) s h =
    (refl, sym (idle_change Const const_as_enum (λ b. refl) const_stays s (is_off (needs_of s).constant h)))
idle_member Q (ReplacePrefixItems t) s h =
    (refl, sym (idle_change PrefixItems prefix_as_items (λ b. refl) prefix_stays s (is_off (needs_of s).prefix_items h)))
idle_member Q (AddNullable t) s h =
    (refl, sym (idle_change Types (with_nullable t) (λ b. refl) (types_stay t) s (is_off (needs_of s).null_type h)))
idle_member Q (ReplaceUnevaluatedProperties t) s h =
    (refl, sym (idle_change Unevaluated unevaluated_as_additional (λ b. refl) unevaluated_stays s (is_off (needs_of s).unevaluated h)))
idle_member Q (RestrictFormats t) s h = cc
idle_member Q (Own t) s h = cc

pub idle_list : {O : Type 0} (Q : TransformStep O) (ts : List (GenTransform O)) (s : Data) → are_idle ts (needs_of s) ≡ true
    → InOrder (OfMember Q) ts s (Ok tt) ts s
idle_list Q [] s h = (refl, refl, refl)
idle_list Q (t ∷ ts) s h =
    let both = and_parts (is_idle t (needs_of s)) (are_idle ts (needs_of s)) h in
    (Ok tt, t, s, idle_member Q t s both.0, (ts, idle_list Q ts s both.1, refl))

-- its function leaves the schema as it is
idle_function : {O : Type 0} (t : GenTransform O) (s : Data) → is_idle t (needs_of s) ≡ true → function_of t s ≡ s
idle_function {O} t s h = go t (idle_member any t s h)
  where
    any : TransformStep O
    any u d r v e = ⊤

    go : (u : GenTransform O) → OfMember any u s (Ok tt) u s → function_of u s ≡ s
    go (ReplaceBoolSchemas u) made = sym made.1
    go (RemoveRefSiblings u) made = sym made.1
    go (SetSingleExample u) made = sym made.1
    go (ReplaceConstValue u) made = sym made.1
    go (ReplacePrefixItems u) made = sym made.1
    go (AddNullable u) made = sym made.1
    go (ReplaceUnevaluatedProperties u) made = sym made.1
    go (RestrictFormats u) made = sym made.1
    go (Own u) made = refl

pub idle_made : {O : Type 0} (ts : List (GenTransform O)) (s : Data) → are_idle ts (needs_of s) ≡ true → made_by ts s ≡ s
idle_made [] s h = refl
idle_made (t ∷ ts) s h =
    let both = and_parts (is_idle t (needs_of s)) (are_idle ts (needs_of s)) h in
    ap (made_by ts) (idle_function t s both.0) ∙ idle_made ts s both.1
