-- What an object says of null and of other values once null is allowed.
use Rattle.std.proofs.Common.{[], ◌≡◌, ◌⊎◌, inl, inr, List, ◌∷◌, Option, Some, None, Bool, true, false, refl, sym, ap, ◌∙◌, subst, true≢false, arith, suc, Ordering, Less, Equal, Greater, nat_cmp, is_eq}
use Rattle.schemars_builders.proofs.Words.{codes, bytes_eq, ◌||◌, ◌&&◌, if◌then◌else◌, is_some, not, length, map, option_map, Data, null, boolean, number, string, array, object, Items, no_items, item, Members, no_members, member, put, get_member, slice_cmp, match_ordering, eqb-true, and_parts, or_parts, is_eq-slice_cmp, members_len, get_member-put, get_member-put_other, bytes_eq-Decides, and-false, or-false, or-true, same_Some, Verdict, Yes, No, Open, both, verdict, opposite, none_of, any_of, Text, alike, IsSchema, Dialect, Patterns, Judge, Context, Raw, Reading, where_some, where_read, type_says, is_null, items_say, past_say, each_says, not_says, unevaluated_properties_say, judge, read_data, read_items, all_keywords, is_reference, reference_alone, both_some, nothing, without, both-yes, either-verdict, schema-judge, judge-object, says, says-agree, get_member-without, without-put, items_none, unevaluated_none, silent, null_schema, is_combined, is_null_choice, offers_null, type_with_null, null_in_type, enum_with_null, null_in_enum, const_or_null, null_in_const, null_in_values, or_null, allow_null, IsDraft, context_of, HasTypeForm, zero_schema, AcceptsNull, SomeAcceptsNull, OffersNull, IsChoice, HasPlainValues, IsPlain, IsNullable}
use Rattle.schemars_builders.proofs.NullKeywords.{const_null, const_plus, enum_plus, type_null, type_other, type_plus, values_null, values_other, values_plus}

-- ---- an object that is not combined

abbrev pub with_null_type : Members → Members
with_null_type ms = null_in_type (get_member (codes "type") ms) ms

abbrev pub with_null : Members → Members
with_null ms = null_in_values (with_null_type ms)

put_other : (k l : Text) (d : Data) (ms : Members) → bytes_eq k l ≡ false → get_member k (put l d ms) ≡ get_member k ms
put_other k l d ms e = get_member-put_other k l d ms (λ same. true≢false (sym ((bytes_eq-Decides k l).1 same) ∙ e))

null_in_type-other : (k : Text) (d : Option Data) (ms : Members) → bytes_eq k (codes "type") ≡ false
    → get_member k (null_in_type d ms) ≡ get_member k ms
null_in_type-other k None ms e = refl
null_in_type-other k (Some d) ms e = put_other k (codes "type") (type_with_null d) ms e

null_in_type-type : (d : Option Data) (ms : Members) → get_member (codes "type") ms ≡ d
    → get_member (codes "type") (null_in_type d ms) ≡ type_plus d
unfolding type_plus
null_in_type-type None ms e = e
null_in_type-type (Some d) ms e = get_member-put (codes "type") _ ms

null_in_enum-other : (k : Text) (d : Option Data) (ms : Members) → bytes_eq k (codes "enum") ≡ false
    → get_member k (null_in_enum d ms) ≡ get_member k ms
null_in_enum-other k None ms e = refl
null_in_enum-other k (Some d) ms e = put_other k (codes "enum") (enum_with_null d) ms e

null_in_enum-enum : (d : Option Data) (ms : Members) → get_member (codes "enum") ms ≡ d
    → get_member (codes "enum") (null_in_enum d ms) ≡ enum_plus d
unfolding enum_plus
null_in_enum-enum None ms e = e
null_in_enum-enum (Some d) ms e = get_member-put (codes "enum") _ ms

pub at_type : (ms : Members) (k : Text) → bytes_eq k (codes "type") ≡ false → get_member k (with_null_type ms) ≡ get_member k ms
at_type ms k e = null_in_type-other k (get_member (codes "type") ms) ms e

-- the look-ups with another type and other values
abbrev with_changed : Option Data → Option Data → Option Data → Raw → Raw
with_changed type const values g k =
    if bytes_eq k (codes "type") then type
    else if bytes_eq k (codes "const") then const
    else if bytes_eq k (codes "enum") then values
    else g k

abbrev pub nulled : Raw → Raw
nulled g = with_changed (type_plus (g (codes "type"))) (const_plus (g (codes "const")))
    (values_plus (g (codes "const")) (g (codes "enum"))) g

-- where there is no `const`, only the type and the values are changed
without_const : (ms : Members) → get_member (codes "const") ms ≡ None
    → with_null ms ≡ null_in_enum (get_member (codes "enum") ms) (with_null_type ms)
without_const ms none =
    ap (λ o. null_in_const o (with_null_type ms)) (at_type ms (codes "const") refl ∙ none)
    ∙ ap (λ o. null_in_enum o (with_null_type ms)) (at_type ms (codes "enum") refl)

-- where there is one that is not null, it is one value of two
pub with_const : (ms : Members) (c : Data) → get_member (codes "const") ms ≡ Some c
    → with_null ms ≡ (if is_null c then with_null_type ms else const_or_null c (with_null_type ms))
with_const ms c some = ap (λ o. null_in_const o (with_null_type ms)) (at_type ms (codes "const") refl ∙ some)

pub same_text : (k l : Text) → bytes_eq k l ≡ true → k ≡ l
same_text k l is = (bytes_eq-Decides k l).0 is

const_or_null-other : (k : Text) (c : Data) (ms : Members) → bytes_eq k (codes "const") ≡ false
    → bytes_eq k (codes "enum") ≡ false
    → get_member k (const_or_null c ms) ≡ get_member k ms
const_or_null-other k c ms no_const no_enum =
    put_other k (codes "enum") _ (without (codes "const") ms) no_enum ∙ get_member-without k (codes "const") ms no_const

pub const_or_null-const : (c : Data) (ms : Members) → get_member (codes "const") (without (codes "const") ms) ≡ None
    → get_member (codes "const") (const_or_null c ms) ≡ None
const_or_null-const c ms once = put_other (codes "const") (codes "enum") _ (without (codes "const") ms) refl ∙ once

pub type_once : (ms : Members) → get_member (codes "const") (without (codes "const") ms) ≡ None
    → get_member (codes "const") (without (codes "const") (with_null_type ms)) ≡ None
type_once ms once = go (get_member (codes "type") ms)
  where
    go : (o : Option Data) → get_member (codes "const") (without (codes "const") (null_in_type o ms)) ≡ None
    go None = once
    go (Some d) = without-put (codes "const") (codes "type") (type_with_null d) ms refl ∙ once

-- what becomes of the members
module _ (ms : Members) where
  abbrev given : Raw
  given k = get_member k ms

  type_found : get_member (codes "type") (with_null_type ms) ≡ type_plus (given (codes "type"))
  type_found = null_in_type-type (given (codes "type")) ms refl

  type_of_enum : (k : Text) → bytes_eq k (codes "enum") ≡ false
      → get_member k (null_in_enum (given (codes "enum")) (with_null_type ms)) ≡ get_member k (with_null_type ms)
  type_of_enum k other = null_in_enum-other k (given (codes "enum")) (with_null_type ms) other

  -- by the keys that are asked for: `type`, `const`, `enum`, another
  by_key : (o : Members) (const values : Option Data)
      → get_member (codes "type") o ≡ type_plus (given (codes "type"))
      → get_member (codes "const") o ≡ const → get_member (codes "enum") o ≡ values
      → ((k : Text) → bytes_eq k (codes "type") ≡ false → bytes_eq k (codes "const") ≡ false
      → bytes_eq k (codes "enum") ≡ false
      → get_member k o ≡ given k)
      → (k : Text) → get_member k o ≡ with_changed (type_plus (given (codes "type"))) const values given k
  by_key o const values type_is const_is values_are rest k =
      go (bytes_eq k (codes "type")) (bytes_eq k (codes "const")) (bytes_eq k (codes "enum")) refl refl refl
    where
      go : (a b d : Bool) → bytes_eq k (codes "type") ≡ a → bytes_eq k (codes "const") ≡ b
          → bytes_eq k (codes "enum") ≡ d
          → get_member k o
          ≡ (if a then type_plus (given (codes "type")) else if b then const else if d then values else given k)
      go true b d p q r = ap (λ l. get_member l o) (same_text k (codes "type") p) ∙ type_is
      go false true d p q r = ap (λ l. get_member l o) (same_text k (codes "const") q) ∙ const_is
      go false false true p q r = ap (λ l. get_member l o) (same_text k (codes "enum") r) ∙ values_are
      go false false false p q r = rest k p q r

  pub agree-none : given (codes "const") ≡ None → (k : Text) → get_member k (with_null ms)
      ≡ with_changed (type_plus (given (codes "type"))) None (enum_plus (given (codes "enum"))) given k
  agree-none none k =
      ap (get_member k) (without_const ms none)
      ∙ by_key (null_in_enum (given (codes "enum")) (with_null_type ms)) None (enum_plus (given (codes "enum")))
      (type_of_enum (codes "type") refl ∙ type_found)
      (type_of_enum (codes "const") refl ∙ (at_type ms (codes "const") refl ∙ none))
      (null_in_enum-enum (given (codes "enum")) (with_null_type ms) (at_type ms (codes "enum") refl))
      (λ l p q r. type_of_enum l r ∙ at_type ms l p) k

  agree-some : (c : Data) (n : Bool) → is_null c ≡ n → given (codes "const") ≡ Some c → given (codes "enum") ≡ None
      → get_member (codes "const") (without (codes "const") ms) ≡ None → (k : Text)
      → get_member k (if n then with_null_type ms else const_or_null c (with_null_type ms))
      ≡ with_changed (type_plus (given (codes "type"))) (if n then Some c else None)
      (if n then None else Some (array (item c (item null no_items)))) given k
  agree-some c true is some no_enum once k =
      by_key (with_null_type ms) (Some c) None type_found (at_type ms (codes "const") refl ∙ some)
      (at_type ms (codes "enum") refl ∙ no_enum) (λ l p q r. at_type ms l p) k
  agree-some c false is some no_enum once k =
      by_key (const_or_null c (with_null_type ms)) None (Some (array (item c (item null no_items))))
      (const_or_null-other (codes "type") c (with_null_type ms) refl refl ∙ type_found)
      (const_or_null-const c (with_null_type ms) (type_once ms once))
      (get_member-put (codes "enum") _ (without (codes "const") (with_null_type ms)))
      (λ l p q r. const_or_null-other l c (with_null_type ms) q r ∙ at_type ms l p) k

pub with_null-agree : (ms : Members) → HasPlainValues ms → (k : Text)
    → get_member k (with_null ms) ≡ nulled (λ l. get_member l ms) k
unfolding const_plus values_plus
with_null-agree ms values k = go (get_member (codes "const") ms) refl values
  where
    go : (o : Option Data) → get_member (codes "const") ms ≡ o → HasPlainValues ms
        → get_member k (with_null ms) ≡ with_changed (type_plus (get_member (codes "type") ms)) (const_plus o)
        (values_plus o (get_member (codes "enum") ms)) (λ l. get_member l ms) k
    go None is values = agree-none ms is k
    go (Some c) is (inl none) = let never : Some c ≡ None = sym is ∙ none in cc
    go (Some c) is (inr one) =
        rw (with_const ms c is, one.0) (agree-some ms c (is_null c) refl is one.0 one.1 k)

-- no `const`, or no `enum`
pub one_form : (ms : Members) → HasPlainValues ms
    → (get_member (codes "const") ms ≡ None) ⊎ (get_member (codes "enum") ms ≡ None)
one_form ms (inl none) = inl none
one_form ms (inr one) = inr one.0

none_of_some : {A : Type 0} (o : Option A) → is_some o ≡ false → o ≡ None
none_of_some None h = refl
none_of_some (Some x) h = absurd (true≢false h)

or-swap : (a b : Bool) → a || b ≡ b || a
or-swap true b = sym (or-true b)
or-swap false b = sym (or-false b)

is_null_value : (v : Data) → is_null v ≡ true → v ≡ null
is_null_value null h = refl
is_null_value _ h = absurd (true≢false (sym h))

-- there is no keyword that combines schemas
pub alone_parts : (ms : Members) → is_combined (object ms) ≡ false
    → (get_member (codes "allOf") ms ≡ None) × (get_member (codes "anyOf") ms ≡ None) × (get_member (codes "oneOf") ms ≡ None)
    × (get_member (codes "$ref") ms ≡ None) × (get_member (codes "if") ms ≡ None)
alone_parts ms h =
    let a = or_parts _ _ h in
    let b = or_parts _ _ a.1 in
    let d = or_parts _ _ b.1 in
    let e = or_parts _ _ d.1 in
    let g = or_parts _ _ e.1 in
    (none_of_some _ b.0, none_of_some _ d.0, none_of_some _ e.0, none_of_some _ g.0, none_of_some _ a.0)

-- ---- a choice that stays

same_key : (k l : Text) (d e : Data) → get_member k (member l d no_members) ≡ Some e → (k ≡ l) × (d ≡ e)
same_key k l d e h = go (slice_cmp nat_cmp k l) (bytes_eq k l) refl (is_eq-slice_cmp k l) h
  where
    go : (o : Ordering) (b : Bool) → bytes_eq k l ≡ b → is_eq o ≡ b → match_ordering o None (Some d) None ≡ Some e → (k ≡ l) × (d ≡ e)
    go Equal true same is at = ((bytes_eq-Decides k l).0 same, cc)
    go Equal false same is at = absurd (true≢false is)
    go Less b same is at = cc
    go Greater b same is at = cc

-- such a choice has no other key
pub choice_key : (ms : Members) → is_null_choice (object ms) ≡ true → (k : Text) (e : Data) → get_member k ms ≡ Some e → k ≡ codes "anyOf"
choice_key no_members stays k e h = cc
choice_key (member l d (member j x ms)) stays k e h =
    let one : suc (suc (members_len ms)) ≡ 1 = eqb-true _ _ (and_parts _ _ stays).0 in
    absurd (omega (arith, one))
choice_key (member l d no_members) stays k e h = go (get_member (codes "anyOf") (member l d no_members)) refl stays
  where
    go : (o : Option Data) → get_member (codes "anyOf") (member l d no_members) ≡ o → offers_null o ≡ true → k ≡ codes "anyOf"
    go None is h = absurd (true≢false (sym h))
    go (Some x) is offers = (same_key k l d e h).0 ∙ sym (same_key (codes "anyOf") l d x is).0

-- the one member is a list under `anyOf`
only_choice : (dialect : Dialect) (ms : Members) → is_null_choice (object ms) ≡ true
    → OffersNull dialect (get_member (codes "anyOf") ms)
    → (ds : Items) × (ms ≡ member (codes "anyOf") (array ds) no_members) × SomeAcceptsNull dialect ds
only_choice dialect no_members stays h = absurd h
only_choice dialect (member l d (member k e ms)) stays h =
    let one : suc (suc (members_len ms)) ≡ 1 = eqb-true _ _ (and_parts _ _ stays).0 in
    absurd (omega (arith, one))
only_choice dialect (member l d no_members) stays h = go (get_member (codes "anyOf") (member l d no_members)) refl h
  where
    go : (o : Option Data) → get_member (codes "anyOf") (member l d no_members) ≡ o → OffersNull dialect o
        → (ds : Items) × (member l d no_members ≡ member (codes "anyOf") (array ds) no_members) × SomeAcceptsNull dialect ds
    go None is h = absurd h
    go (Some (array ds)) is h =
        let same = same_key (codes "anyOf") l d (array ds) is in
        (ds, rw (← same.0, same.1) refl, h)
    go (Some null) is h = absurd h
    go (Some (boolean b)) is h = absurd h
    go (Some (number n)) is h = absurd h
    go (Some (string s)) is h = absurd h
    go (Some (object ms)) is h = absurd h

alone-not_choice : (ms : Members) → is_combined (object ms) ≡ false → is_null_choice (object ms) ≡ true → ⊥
alone-not_choice ms alone stays =
    let none : get_member (codes "anyOf") ms ≡ None = (alone_parts ms alone).1 in
    true≢false (sym ((and_parts _ _ stays).1) ∙ ap offers_null none)

abbrev judge_in : Option Judge → Judge
judge_in o = elim o [ None ↦ nothing | Some s ↦ s ]

-- with a `Yes` among them, verdicts are not all `No`
refused : (y : Verdict) → both No y ≡ Yes → ⊥
refused Yes h = cc
refused No h = cc
refused Open h = cc

refused_later : (x y : Verdict) → (y ≡ Yes → ⊥) → both x y ≡ Yes → ⊥
refused_later Yes y later h = later h
refused_later Open y later h = cc
refused_later No Yes later h = cc
refused_later No No later h = cc
refused_later No Open later h = cc

accepted : (x : Verdict) (b : Bool) → (x ≡ Yes → ⊥) → opposite x ≡ verdict b → b ≡ true
accepted x true some h = refl
accepted Yes false some h = absurd (some refl)
accepted No false some h = cc
accepted Open false some h = cc

-- ---- under each draft

-- a dialect that reads `const`, and no `nullable`
abbrev pub drafted : Bool → Bool → Bool → Dialect
drafted siblings prefix unevaluated = record {
  judges_siblings = siblings;
  reads_prefix_items = prefix;
  reads_nullable = false;
  reads_const = true;
  reads_unevaluated = unevaluated;
}

pub each_draft : (P : Dialect → Type 0) → ((siblings prefix unevaluated : Bool) → P (drafted siblings prefix unevaluated))
    → (dialect : Dialect) → IsDraft dialect → P dialect
each_draft P h dialect (inl is) = subst P (sym is) (h true true true)
each_draft P h dialect (inr (inl is)) = subst P (sym is) (h true false true)
each_draft P h dialect (inr (inr is)) = subst P (sym is) (h false false false)

-- keywords for lists and maps say nothing of null
items_of_null : (reads : Bool) (prefix items additional : Option Reading) → items_say reads prefix items additional null ≡ Yes
items_of_null true prefix items additional = simp silent
items_of_null false prefix None additional = refl
items_of_null false prefix (Some x) additional = go x.listed
  where
    go : (o : Option (List Judge)) → where_some o (λ ss. past_say (length ss) additional null) ≡ Yes
    go None = refl
    go (Some ss) = simp silent

unevaluated_of_null : (reads : Bool) (judged : Text → Bool) (o : Option Reading)
    → unevaluated_properties_say reads judged o null ≡ Yes
unevaluated_of_null true judged o = silent o
unevaluated_of_null false judged o = refl

silent_read : {A : Type 0} (reads : Bool) (o : Option A) → where_read reads o (λ x. Yes) ≡ Yes
silent_read reads None = refl
silent_read true (Some x) = refl
silent_read false (Some x) = refl

-- beside a reference that is alone, the rest of two objects need not agree
beside : (alone : Bool) (r s t : Judge) (v : Data) → s.fits v ≡ t.fits v
    → (if alone then r else s).fits v ≡ (if alone then r else t).fits v
beside true r s t v e = refl
beside false r s t v e = e

only_null : (v : Data) → type_says false (Some (string (codes "null"))) None v ≡ verdict (is_null v)
only_null null = refl
only_null _ = refl

module _ (siblings prefix unevaluated : Bool) (patterns : Patterns) (f : Text → Judge) where
  abbrev dialect : Dialect
  dialect = drafted siblings prefix unevaluated

  abbrev pub c : Context
  c = context_of dialect patterns f

  other_says : (g : Raw) → HasTypeForm (g (codes "type")) → ((g (codes "const") ≡ None) ⊎ (g (codes "enum") ≡ None))
      → (v : Data) → is_null v ≡ false → (says c (nulled g)).fits v ≡ (says c g).fits v
  unfolding says all_keywords
  other_says g h values v other =
      beside (not siblings && is_reference (g (codes "$ref"))) (reference_alone c g) _ _ v
      (rw (type_other (g (codes "type")) h v other, values_other (g (codes "const")) (g (codes "enum")) values v other) refl)

  -- the schema of 0 refuses null
  not_zero : (o : Option Data) → (o ≡ None) ⊎ (o ≡ Some zero_schema) → not_says (option_map (read_data c) o) null ≡ Yes
  unfolding read_data all_keywords alike
  not_zero o (inl none) = rw none refl
  not_zero o (inr zero) =
      rw (
        zero,
        and-false (not siblings),
        items_none prefix null,
        unevaluated_none unevaluated _ null,
      )
      refl

  pub null_says : (g : Raw) → HasTypeForm (g (codes "type")) → ((g (codes "const") ≡ None) ⊎ (g (codes "enum") ≡ None))
      → ((g (codes "not") ≡ None) ⊎ (g (codes "not") ≡ Some zero_schema))
      → (g (codes "allOf") ≡ None) → (g (codes "anyOf") ≡ None) → (g (codes "oneOf") ≡ None) → (g (codes "$ref") ≡ None)
      → (g (codes "if") ≡ None) → (says c (nulled g)).fits null ≡ Yes
  unfolding says all_keywords
  null_says g h values not_form no_all no_any no_one no_ref no_if =
      rw (
        no_ref,
        no_if,
        and-false (not siblings),
        type_null (g (codes "type")) h,
        const_null (g (codes "const")),
        values_null _ _ values,
        not_zero (g (codes "not")) not_form,
        no_all,
        no_any,
        no_one,
      )
      (simp (silent, silent_read, items_of_null, unevaluated_of_null))

  pub of_null : (v : Data) → (judge c null_schema).fits v ≡ verdict (is_null v)
  unfolding read_data all_keywords
  of_null v =
      rw (
        and-false (not siblings),
        items_none prefix v,
        unevaluated_none unevaluated _ v,
        both-yes,
      )
      (only_null v)

  -- `anyOf` alone
  choice_alone : (ds : Items) (v : Data) → (judge c (object (member (codes "anyOf") (array ds) no_members))).fits v
      ≡ each_says any_of (Some (record { schema = None; listed = read_items c ds; named = None; among = [] })) v
  unfolding read_data all_keywords
  choice_alone ds v =
      rw (
        and-false (not siblings),
        items_none prefix v,
        unevaluated_none unevaluated _ v,
        both-yes,
      )
      refl

  or_null-says : (t : Data) → IsSchema t → (v : Data) (b : Bool) → (judge c t).fits v ≡ verdict b
      → (judge c (or_null t)).fits v ≡ verdict (is_null v || b)
  unfolding read_data
  or_null-says t is v b e =
      choice_alone (item t (item null_schema no_items)) v
      ∙ rw (schema-judge c t is, e, of_null v)
      (either-verdict b (is_null v) ∙ ap verdict (or-swap b (is_null v)))

  some_listed : (ds : Items) → SomeAcceptsNull dialect ds → (ss : List Judge) → read_items c ds ≡ Some ss
      → none_of (map (λ s. s.fits null) ss) ≡ Yes → ⊥
  unfolding read_data
  some_listed no_items some ss is = absurd some
  some_listed (item d ds) some ss is = go (λ more rest later. some_listed ds more rest later) (read_data c d).schema (read_items c ds)
      refl refl is
    where
      go : (SomeAcceptsNull dialect ds → (rest : List Judge) → read_items c ds ≡ Some rest
          → none_of (map (λ s. s.fits null) rest) ≡ Yes → ⊥)
          → (s : Option Judge) (o : Option (List Judge)) → (read_data c d).schema ≡ s → read_items c ds ≡ o
          → both_some (λ s ss. s ∷ ss) s o ≡ Some ss → none_of (map (λ s. s.fits null) ss) ≡ Yes → ⊥
      go below None o first later at = cc
      go below (Some s) None first later at = cc
      go below (Some s) (Some rest) first later at = rw (← (same_Some _ _ at)) (here some)
        where
          here : AcceptsNull dialect d ⊎ SomeAcceptsNull dialect ds
              → both (opposite (s.fits null)) (none_of (map (λ s. s.fits null) rest)) ≡ Yes → ⊥
          here (inl accepts) = let fits : s.fits null ≡ Yes = sym (ap (λ o. (judge_in o).fits null) first) ∙ accepts patterns f in
              rw fits (refused (none_of (map (λ s. s.fits null) rest)))
          here (inr more) = refused_later (opposite (s.fits null)) (none_of (map (λ s. s.fits null) rest)) (below more rest later)

  always : (b : Bool) → Yes ≡ verdict b → b ≡ true
  always true h = refl
  always false h = cc

  choice_accepts : (ds : Items) → SomeAcceptsNull dialect ds → (b : Bool) → (judge c
      (object (member (codes "anyOf") (array ds) no_members))).fits null ≡ verdict b → b ≡ true
  unfolding read_data all_keywords
  choice_accepts ds some b e = go (read_items c ds) refl (sym (choice_alone ds null) ∙ e)
    where
      go : (o : Option (List Judge)) → read_items c ds ≡ o → each_says any_of (Some (record { schema = None; listed = o; named = None; among = [] }))
          null ≡ verdict b → b ≡ true
      go None is h = always b h
      go (Some ss) is h = accepted (none_of (map (λ s. s.fits null) ss)) b (some_listed ds some ss is) h

  choice_says : (ms : Members) → IsChoice dialect ms → is_null_choice (object ms) ≡ true → (v : Data) (n b : Bool) → is_null v ≡ n
      → (judge c (object ms)).fits v ≡ verdict b
      → (judge c (object ms)).fits v ≡ verdict (n || b)
  choice_says ms p stays v false b is e = e
  choice_says ms p stays v true b is e =
      let only = only_choice dialect ms stays (p.offers stays) in
      let at_null : (judge c (object (member (codes "anyOf") (array only.0) no_members))).fits null ≡ verdict b =
      ap (λ ns. (judge c (object ns)).fits null) (sym only.1) ∙ (ap (judge c (object ms)).fits (sym (is_null_value v is)) ∙ e) in
      e ∙ ap verdict (choice_accepts only.0 only.2 b at_null)

  plain_says : (ms : Members) → is_combined (object ms) ≡ false → IsPlain ms → (v : Data) (n b : Bool) → is_null v ≡ n
      → (judge c (object ms)).fits v ≡ verdict b
      → (judge c (object (with_null ms))).fits v ≡ verdict (n || b)
  plain_says ms alone p v true b is e =
      let g : Raw = λ k. get_member k ms in
      let parts = alone_parts ms alone in
      rw (is_null_value v is) (ap (λ j. j.fits null) (judge-object c (with_null ms)
      ∙ says-agree c _ _ (λ k key. with_null-agree ms p.values k))
      ∙ null_says g p.type_form (one_form ms p.values) p.not_form parts.0 parts.1 parts.2 parts.3 parts.4)
  plain_says ms alone p v false b is e =
      let g : Raw = λ k. get_member k ms in
      ap (λ j. j.fits v) (judge-object c (with_null ms) ∙ says-agree c _ _ (λ k key. with_null-agree ms p.values k))
      ∙ (other_says g p.type_form (one_form ms p.values) v is ∙ (sym (ap (λ j. j.fits v) (judge-object c ms)) ∙ e))

  drafted-says : (t : Data) → IsNullable dialect t → (v : Data) (b : Bool) → (judge c t).fits v ≡ verdict b
      → (judge c (allow_null t)).fits v ≡ verdict (is_null v || b)
  unfolding read_data
  drafted-says (boolean true) r v true e = ap verdict (sym (or-true (is_null v)))
  drafted-says (boolean true) r v false e = cc
  drafted-says (boolean false) r v true e = cc
  drafted-says (boolean false) r v false e = of_null v ∙ ap verdict (sym (or-false (is_null v)))
  drafted-says (object ms) r v b e = go (is_null_choice (object ms)) (is_combined (object ms)) refl refl r
    where
      go : (s o : Bool) → is_null_choice (object ms) ≡ s → is_combined (object ms) ≡ o → IsChoice dialect ms ⊎ IsPlain ms
          → (judge c (if s then object ms else if o then or_null (object ms) else object (with_null ms))).fits v ≡ verdict (is_null v || b)
      go true o stays is (inl p) = choice_says ms p stays v (is_null v) b refl e
      go true o stays is (inr p) = absurd (alone-not_choice ms p.alone stays)
      go false true stays is h = or_null-says (object ms) tt v b e
      go false false stays is (inl p) = absurd (true≢false (sym p.combined ∙ is))
      go false false stays is (inr p) = plain_says ms is p v (is_null v) b refl e
  drafted-says _ r v b e = absurd r

pub allow_null-says : (dialect : Dialect) → IsDraft dialect → (patterns : Patterns) (f : Text → Judge) (t : Data)
    → IsNullable dialect t → (v : Data) (b : Bool) → (judge (context_of dialect patterns f) t).fits v ≡ verdict b
    → (judge (context_of dialect patterns f) (allow_null t)).fits v ≡ verdict (is_null v || b)
allow_null-says dialect draft patterns f t =
    each_draft (λ d. IsNullable d t → (v : Data) (b : Bool) → (judge (context_of d patterns f) t).fits v ≡ verdict b
    → (judge (context_of d patterns f) (allow_null t)).fits v ≡ verdict (is_null v || b))
    (λ siblings prefix unevaluated. drafted-says siblings prefix unevaluated patterns f t) dialect draft
