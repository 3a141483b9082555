-- Which changes leave a schema object one that the laws of the drafts speak of.
use Rattle.std.proofs.Common.{◌≡◌, ◌≢◌, ◌⊎◌, inl, inr, List, [], ◌∷◌, Option, Some, None, Bool, true, false, codes, refl, sym, ap, ◌∙◌, subst, true≢false}
use Rattle.schemars_headline.proofs.Words.{◌++◌, not, is_some, bytes_eq-Decides, and_parts, bytes_eq, if◌then◌else◌, ◌||◌, ◌&&◌, Data, null, boolean, number, string, array, object, Items, no_items, item, Members, no_members, member, put, get_member, get_member-put, get_member-put_other, Text, is_listed, IsSchema, members_in, put_members, AreNotes, without, replaced, holds_text, NoSchemas, place_under, draft2020_12, is_null, differ, is_null_choice, is_combined, or_null, allow_null, type_with_null, null_in_type, enum_with_null, null_in_enum, const_or_null, null_in_const, null_in_values, annotated, Everywhere, demanded, IsOnce, IsSchemaList, HasPlainItems, IsTextWith, Stands, IsForOpenApi, AreSomeTypes, absent-once, weaker, is_annotation, with_item, with_schema, with_list, keywords_with_names, not_among, annotation-not_listed, unequal, noted_by, AllNotes, IsNoObject, HasNoObjects, HasPlainUnevaluated, AreTexts, is_null_alone, HasNone, of_draft06, of_draft2019_09, IsConstAlone, HasNoUnevaluated, HasSomeTypes, without-put, alike-put, alike-replaced, once-put, type-alike, values-alike, const-alike, stands-alike, without-other, Alike, items-alike, without-swap, all-none, none-at, none-alike, none-plain, asked-without, asked-put, asked-replaced}
use Rattle.schemars_laws.specs.Everywhere.{asked, asked_of_keywords}

-- ---- keywords

-- those that the laws of the drafts ask about
abbrev pub watched : List Text
watched = codes "$ref" ∷ codes "allOf" ∷ codes "prefixItems" ∷ codes "items" ∷ codes "additionalItems"
    ∷ codes "unevaluatedProperties" ∷ codes "type" ∷ codes "nullable" ∷ codes "const" ∷ codes "enum" ∷ of_draft06 ++ of_draft2019_09

abbrev pub IsWatched : Text → Type 0
IsWatched k = is_listed k watched ≡ true

abbrev pub IsUnwatched : Text → Type 0
IsUnwatched k = is_listed k watched ≡ false

watched-apart : (k l : Text) → is_listed k watched ≡ true → IsUnwatched l → k ≢ l
watched-apart k l at out = λ same. true≢false (sym at ∙ (ap (λ x. is_listed x watched) same ∙ out))

either_false : (b : Bool) → b || false ≡ false → b ≡ false
either_false true h = h
either_false false h = h

-- the value of a keyword of no list is no schema
pub place-none : (k : Text) → is_listed k with_schema ≡ false → is_listed k with_list ≡ false
    → is_listed k (codes "items" ∷ []) ≡ false → is_listed k keywords_with_names ≡ false → place_under k ≡ NoSchemas
place-none k one list items names = rw (one, list, either_false (bytes_eq k (codes "items")) items, names) refl

note-unwatched : (k : Text) → is_annotation k ≡ true → IsUnwatched k
note-unwatched k note = annotation-not_listed k watched refl note

note-place : (k : Text) → is_annotation k ≡ true → place_under k ≡ NoSchemas
note-place k note =
    place-none k (annotation-not_listed k with_schema refl note) (annotation-not_listed k with_list refl note)
    (annotation-not_listed k (codes "items" ∷ []) refl note) (annotation-not_listed k keywords_with_names refl note)

-- where there is no schema, nothing is asked
pub asked-nothing : (P : Members → Type 0) (k : Text) (d : Data) → place_under k ≡ NoSchemas
    → demanded (place_under k) (asked P d)
asked-nothing P k d is = subst (λ p. demanded p (asked P d)) (sym is) tt

-- ---- keywords that are not there

-- each of the texts is among the others
abbrev pub all_among : List Text → List Text → Bool
all_among [] ls = true
all_among (k ∷ ks) ls = is_listed k ls && all_among ks ls

pub among : (k : Text) (ks ls : List Text) → all_among ks ls ≡ true → is_listed k ks ≡ true → is_listed k ls ≡ true
among k [] ls all at = absurd (true≢false (sym at))
among k (l ∷ ks) ls all at = go (bytes_eq k l) refl at (among k ks ls parts.1)
  where
    parts : (is_listed l ls ≡ true) × (all_among ks ls ≡ true)
    parts = and_parts (is_listed l ls) (all_among ks ls) all

    go : (b : Bool) → bytes_eq k l ≡ b → b || is_listed k ks ≡ true → (is_listed k ks ≡ true → is_listed k ls ≡ true)
        → is_listed k ls ≡ true
    go true same is later = ap (λ x. is_listed x ls) ((bytes_eq-Decides k l).0 same) ∙ parts.0
    go false same is later = later is

-- none of the texts is a key
abbrev pub are_missing : List Text → Members → Bool
are_missing [] ms = true
are_missing (k ∷ ks) ms = not (is_some (get_member k ms)) && are_missing ks ms

pub missing-none : (ks : List Text) (ms : Members) → are_missing ks ms ≡ true → HasNone ks ms
missing-none [] ms missing = tt
missing-none (k ∷ ks) ms missing = (none (get_member k ms) parts.0, missing-none ks ms parts.1)
  where
    parts : (not (is_some (get_member k ms)) ≡ true) × (are_missing ks ms ≡ true)
    parts = and_parts (not (is_some (get_member k ms))) (are_missing ks ms) missing

    none : (o : Option Data) → not (is_some o) ≡ true → o ≡ None
    none None is = refl
    none (Some d) is = absurd (true≢false (sym is))

watched-draft06 : (k : Text) → is_listed k of_draft06 ≡ true → IsWatched k
watched-draft06 k at = among k of_draft06 watched refl at

watched-2019_09 : (k : Text) → is_listed k of_draft2019_09 ≡ true → IsWatched k
watched-2019_09 k at = among k of_draft2019_09 watched refl at

-- the same stands at each of these keys
abbrev pub AgreeAt : List Text → Members → Members → Type 0
AgreeAt ks ns ms = (k : Text) → is_listed k ks ≡ true → get_member k ns ≡ get_member k ms

-- ---- classes of schema objects

-- what a class asks of references, and of `unevaluatedProperties`
pub record Demand : Type 1 where
  pub refers : Text → Type 0
  pub rest : Members → Type 0
  pub stays : (ns ms : Members) → Alike (codes "unevaluatedProperties") ns ms → AgreeAt of_draft2019_09 ns ms → rest ms → rest ns
  pub lacking : (ms : Members) → HasNoUnevaluated ms → rest ms
  pub plain : (ms : Members) → rest ms → HasPlainUnevaluated draft2020_12 ms

-- there are no `unevaluatedProperties`: so OpenAPI and Draft 7 ask
abbrev pub without_rest : (Text → Type 0) → Demand
without_rest N = record {
  refers = N;
  rest = HasNoUnevaluated;
  stays = λ ns ms a b is. (a.others ∙ is.0, a.first ∙ is.1, none-alike of_draft2019_09 ns ms b is.2);
  lacking = λ ms is. is;
  plain = λ ms is. none-plain draft2020_12 ms is;
}

-- the others that 2019-09 reads and a walk does not lead to
abbrev unwalked : List Text
unwalked = codes "dependentSchemas" ∷ codes "unevaluatedItems" ∷ []

-- they are no schema object, and there is none of the others: so 2019-09 asks, which reads them
abbrev pub with_rest : (Text → Type 0) → Demand
with_rest N = record {
  refers = N;
  rest = λ ms. IsNoObject (get_member (codes "unevaluatedProperties") ms) × HasNone unwalked ms;
  stays = λ ns ms a b is. (
    subst IsNoObject (sym a.first) is.0,
    none-alike unwalked ns ms (λ k at. b k (among k unwalked of_draft2019_09 refl at)) is.1,
  );
  lacking = λ ms is. (
    subst IsNoObject (sym is.1) tt,
    all-none unwalked ms (λ k at. none-at of_draft2019_09 k ms (among k unwalked of_draft2019_09 refl at) is.2),
  );
  plain = λ ms is. (
    λ reads. (
      is.0,
      subst IsNoObject (sym (none-at unwalked (codes "unevaluatedItems") ms refl is.1)) tt,
      subst HasNoObjects (sym (none-at unwalked (codes "dependentSchemas") ms refl is.1)) tt,
    ),
    λ reads. absurd (true≢false (sym reads)),
  );
}

-- what the laws of the drafts and of OpenAPI ask for beside the reference
pub record HasPlainKeywords (R : Demand) (ms : Members) : Type 0 where
  pub rest : R.rest ms
  pub type : HasSomeTypes ms
  pub values : (is_null_alone (get_member (codes "type") ms) ≡ false) ⊎ (get_member (codes "enum") ms ≡ None)
  pub all_of : IsSchemaList (get_member (codes "allOf") ms)
  pub const : IsConstAlone ms
  pub items : HasPlainItems ms

-- members of which the laws speak
abbrev pub Class : Demand → Members → Type 0
Class R = Stands R.refers (HasPlainKeywords R)

-- those of OpenAPI and of Draft 7
pub for_openapi : (N : Text → Type 0) (s : Data) → Everywhere (Class (without_rest N)) s → Everywhere (Stands N IsForOpenApi) s
for_openapi N s is = weaker (Class (without_rest N)) (Stands N IsForOpenApi) (λ ms h. record {
  reference = h.reference;
  once = h.once;
  own = record {
    unevaluated = h.own.rest;
    type = h.own.type;
    values = h.own.values;
    all_of = h.own.all_of;
    const = h.own.const;
    items = h.own.items;
  };
}) s is

-- that of 2019-09
abbrev pub IsDraft2019_09 : Members → Type 0
IsDraft2019_09 ms = HasPlainUnevaluated draft2020_12 ms × HasPlainItems ms

pub for_items : (R : Demand) (s : Data) → Everywhere (Class R) s → Everywhere (Stands R.refers IsDraft2019_09) s
for_items R s is = weaker (Class R) (Stands R.refers IsDraft2019_09) (λ ms h. record {
  reference = h.reference;
  once = h.once;
  own = (R.plain ms h.own.rest, h.own.items);
}) s is

-- ---- members put in, and taken out

module _ (R : Demand) where
  keeps : (ns ms : Members) → Alike (codes "$ref") ns ms → HasPlainKeywords R ns → Class R ms → Class R ns
  keeps = stands-alike R.refers (HasPlainKeywords R) (HasPlainKeywords R)

  class-alike : (ns ms : Members) → ((k : Text) → is_listed k watched ≡ true → Alike k ns ms) → Class R ms → Class R ns
  class-alike ns ms a is =
      keeps ns ms (a (codes "$ref") refl) (record {
        rest = R.stays ns ms (a (codes "unevaluatedProperties") refl)
            (λ k at. (a k (watched-2019_09 k at)).first) is.own.rest;
        type = type-alike ns ms (a (codes "type") refl) (a (codes "nullable") refl) (a (codes "const") refl) is.own.type;
        values = values-alike ns ms (a (codes "type") refl) (a (codes "enum") refl) is.own.values;
        all_of = subst IsSchemaList (sym (a (codes "allOf") refl).first) is.own.all_of;
        const = const-alike ns ms (a (codes "const") refl) (a (codes "enum") refl)
            (none-alike of_draft06 ns ms (λ k at. (a k (watched-draft06 k at)).first) is.own.const.2) is.own.const;
        items = items-alike ns ms (a (codes "prefixItems") refl) (a (codes "items") refl) (a (codes "additionalItems") refl)
            (a (codes "contains") refl) is.own.items;
      }) is

  class-put : (l : Text) (d : Data) (ms : Members) → IsUnwatched l → Class R ms → Class R (put l d ms)
  class-put l d ms out is = class-alike (put l d ms) ms (λ k at. record {
    first = get_member-put_other k l d ms (watched-apart k l at out);
    others = without-put k l d ms (watched-apart k l at out);
  }) is

  class-replaced : (l : Text) (d : Data) (ms : Members) → IsUnwatched l → Class R ms → Class R (replaced l d ms)
  class-replaced l d ms out is =
      class-alike (replaced l d ms) ms (λ k at. alike-replaced k l d ms (unequal k l (watched-apart k l at out))) is

  -- members of the class, and schemas of it inside them
  pub record AreGood (ms : Members) : Type 0 where
    pub own : Class R ms
    pub inside : asked_of_keywords (Class R) ms

  pub are-put : (l : Text) (d : Data) (ms : Members) → IsUnwatched l → demanded (place_under l) (asked (Class R) d) → AreGood ms
      → AreGood (put l d ms)
  are-put l d ms out here is = record { own = class-put l d ms out is.own; inside = asked-put (Class R) l d ms here is.inside }

  pub are-replaced : (l : Text) (d : Data) (ms : Members) → IsUnwatched l → demanded (place_under l) (asked (Class R) d) → AreGood ms
      → AreGood (replaced l d ms)
  are-replaced l d ms out here is =
      record { own = class-replaced l d ms out is.own; inside = asked-replaced (Class R) l d ms here is.inside }

  -- `type`, `const` and `enum`, as they may be beside one another
  other : (l k : Text) (d : Data) (ms : Members) → bytes_eq k l ≡ false → Alike k (put l d ms) ms
  other l k d ms out = alike-put k l d ms out

  agree-put : (l : Text) (d : Data) (ms : Members) (ks : List Text) → is_listed l ks ≡ false → AgreeAt ks (put l d ms) ms
  agree-put l d ms ks out k at =
      get_member-put_other k l d ms (λ same. true≢false (sym at ∙ (ap (λ x. is_listed x ks) same ∙ out)))

  class-type : (t : Data) (ms : Members) → AreSomeTypes (Some t)
      → (is_null_alone (Some t) ≡ false) ⊎ ((get_member (codes "const") ms ≡ None) × (get_member (codes "enum") ms ≡ None)) → Class R ms
      → Class R (put (codes "type") t ms)
  class-type t ms types alone is =
      let ns = put (codes "type") t ms in
      let here : get_member (codes "type") (put (codes "type") t ms) ≡ Some t = get_member-put (codes "type") t ms in
      keeps (put (codes "type") t ms) ms (other (codes "type") (codes "$ref") t ms refl)
      (record {
        rest = R.stays (put (codes "type") t ms) ms (other (codes "type") (codes "unevaluatedProperties") t ms refl)
            (agree-put (codes "type") t ms of_draft2019_09 refl) is.own.rest;
        type = (
          subst AreSomeTypes (sym here) types,
          (other (codes "type") (codes "nullable") t ms refl).first ∙ is.own.type.1,
          no_const here alone,
        );
        values = no_enum here alone;
        all_of = subst IsSchemaList (sym (other (codes "type") (codes "allOf") t ms refl).first) is.own.all_of;
        const = const-alike (put (codes "type") t ms) ms (other (codes "type") (codes "const") t ms refl)
            (other (codes "type") (codes "enum") t ms refl)
            (none-alike of_draft06 (put (codes "type") t ms) ms (agree-put (codes "type") t ms of_draft06 refl) is.own.const.2) is.own.const;
        items = items-alike (put (codes "type") t ms) ms (other (codes "type") (codes "prefixItems") t ms refl)
            (other (codes "type") (codes "items") t ms refl)
            (other (codes "type") (codes "additionalItems") t ms refl) (other (codes "type") (codes "contains") t ms refl) is.own.items;
      }) is
    where
      no_const : get_member (codes "type") (put (codes "type") t ms) ≡ Some t
          → (is_null_alone (Some t) ≡ false) ⊎ ((get_member (codes "const") ms ≡ None) × (get_member (codes "enum") ms ≡ None))
          → (is_null_alone (get_member (codes "type") (put (codes "type") t ms)) ≡ false)
          ⊎ (get_member (codes "const") (put (codes "type") t ms) ≡ None)
      no_const here (inl out) = inl (ap is_null_alone here ∙ out)
      no_const here (inr out) = inr ((other (codes "type") (codes "const") t ms refl).first ∙ out.0)

      no_enum : get_member (codes "type") (put (codes "type") t ms) ≡ Some t
          → (is_null_alone (Some t) ≡ false) ⊎ ((get_member (codes "const") ms ≡ None) × (get_member (codes "enum") ms ≡ None))
          → (is_null_alone (get_member (codes "type") (put (codes "type") t ms)) ≡ false)
          ⊎ (get_member (codes "enum") (put (codes "type") t ms) ≡ None)
      no_enum here (inl out) = inl (ap is_null_alone here ∙ out)
      no_enum here (inr out) = inr ((other (codes "type") (codes "enum") t ms refl).first ∙ out.1)

  valued-2019_09 : (k : Text) → is_listed k of_draft2019_09 ≡ true → is_listed k (codes "const" ∷ codes "enum" ∷ []) ≡ false
  valued-2019_09 k at = not_among k of_draft2019_09 (codes "const" ∷ codes "enum" ∷ []) refl at

  valued-draft06 : (k : Text) → is_listed k of_draft06 ≡ true → is_listed k (codes "const" ∷ codes "enum" ∷ []) ≡ false
  valued-draft06 k at = not_among k of_draft06 (codes "const" ∷ codes "enum" ∷ []) refl at

  -- a change of `const` and `enum` beside a type that is not null alone
  class-values : (ns ms : Members)
      → ((k : Text) → is_listed k (codes "const" ∷ codes "enum" ∷ []) ≡ false → is_listed k watched ≡ true → Alike k ns ms)
      → IsConstAlone ns → is_null_alone (get_member (codes "type") ms) ≡ false → Class R ms → Class R ns
  class-values ns ms a const alone is =
      keeps ns ms (a (codes "$ref") refl refl) (record {
        rest = R.stays ns ms (a (codes "unevaluatedProperties") refl refl) (λ k at. (a k (valued-2019_09 k at) (watched-2019_09 k at)).first) is.own.rest;
        type = (
          subst AreSomeTypes (sym (a (codes "type") refl refl).first) is.own.type.0,
          (a (codes "nullable") refl refl).first ∙ is.own.type.1,
          inl (ap is_null_alone (a (codes "type") refl refl).first ∙ alone),
        );
        values = inl (ap is_null_alone (a (codes "type") refl refl).first ∙ alone);
        all_of = subst IsSchemaList (sym (a (codes "allOf") refl refl).first) is.own.all_of;
        const = const;
        items = items-alike ns ms (a (codes "prefixItems") refl refl) (a (codes "items") refl refl)
            (a (codes "additionalItems") refl refl) (a (codes "contains") refl refl) is.own.items;
      }) is

  -- k is watched, and none of these two
  apart-from : (k l : Text) → is_listed k (codes "const" ∷ codes "enum" ∷ []) ≡ false
      → is_listed l (codes "const" ∷ codes "enum" ∷ []) ≡ true → k ≢ l
  apart-from k l out at same = true≢false (sym at ∙ (ap (λ x. is_listed x (codes "const" ∷ codes "enum" ∷ [])) (sym same) ∙ out))

  alike-value : (l k : Text) (d : Data) (ms : Members) → is_listed l (codes "const" ∷ codes "enum" ∷ []) ≡ true
      → is_listed k (codes "const" ∷ codes "enum" ∷ []) ≡ false → Alike k (put l d ms) ms
  alike-value l k d ms at out = record {
    first = get_member-put_other k l d ms (apart-from k l out at);
    others = without-put k l d ms (apart-from k l out at);
  }

  pub are-types : (t : Data) (ms : Members) → AreSomeTypes (Some t)
      → (is_null_alone (Some t) ≡ false) ⊎ ((get_member (codes "const") ms ≡ None) × (get_member (codes "enum") ms ≡ None)) → AreGood ms
      → AreGood (put (codes "type") t ms)
  are-types t ms types alone is =
      record { own = class-type t ms types alone is.own; inside = asked-put (Class R) (codes "type") t ms tt is.inside }

  pub are-const : (c : Data) (ms : Members) → get_member (codes "const") ms ≡ None → get_member (codes "enum") ms ≡ None
      → is_null_alone (get_member (codes "type") ms) ≡ false → AreGood ms → AreGood (put (codes "const") c ms)
  are-const c ms const enum alone is = record {
    own = class-values (put (codes "const") c ms) ms (λ k out at. alike-value (codes "const") k c ms refl out) (
      once-put (codes "const") c ms const,
      inr ((other (codes "const") (codes "enum") c ms refl).first ∙ enum),
      none-alike of_draft06 (put (codes "const") c ms) ms (agree-put (codes "const") c ms of_draft06 refl) is.own.own.const.2,
    ) alone is.own;
    inside = asked-put (Class R) (codes "const") c ms tt is.inside;
  }

  pub are-enum : (e : Data) (ms : Members) → get_member (codes "const") ms ≡ None
      → is_null_alone (get_member (codes "type") ms) ≡ false → AreGood ms → AreGood (put (codes "enum") e ms)
  are-enum e ms const alone is = record {
    own = class-values (put (codes "enum") e ms) ms (λ k out at. alike-value (codes "enum") k e ms refl out) (
      (other (codes "enum") (codes "const") e ms refl).others ∙ is.own.own.const.0,
      inl ((other (codes "enum") (codes "const") e ms refl).first ∙ const),
      none-alike of_draft06 (put (codes "enum") e ms) ms (agree-put (codes "enum") e ms of_draft06 refl) is.own.own.const.2,
    ) alone is.own;
    inside = asked-put (Class R) (codes "enum") e ms tt is.inside;
  }

  without-const : (ms : Members) → is_null_alone (get_member (codes "type") ms) ≡ false → AreGood ms → AreGood (without (codes "const") ms)
  without-const ms alone is = record {
    own = class-values (without (codes "const") ms) ms (λ k out at. record {
      first = without-other (codes "const") k ms (apart-from k (codes "const") out refl);
      others = without-swap k (codes "const") ms (apart-from k (codes "const") out refl);
    }) (
      absent-once (codes "const") (without (codes "const") ms) is.own.own.const.0,
      inl is.own.own.const.0,
      none-alike of_draft06 (without (codes "const") ms) ms
          (λ k at. without-other (codes "const") k ms (apart-from k (codes "const") (valued-draft06 k at) refl)) is.own.own.const.2,
    ) alone is.own;
    inside = asked-without (Class R) (codes "const") ms is.inside;
  }

  -- members are of the class where there is neither `nullable`, `const` nor `enum`, and what else it asks about is as it asks
  pub class-of : (ms : Members) → IsTextWith R.refers (get_member (codes "$ref") ms) → IsOnce (codes "$ref") ms
      → R.rest ms → AreSomeTypes (get_member (codes "type") ms)
      → get_member (codes "nullable") ms ≡ None → get_member (codes "const") ms ≡ None → get_member (codes "enum") ms ≡ None
      → IsSchemaList (get_member (codes "allOf") ms) → HasPlainItems ms → HasNone of_draft06 ms → Class R ms
  class-of ms reference once rest types nullable const enum all items later = record {
    reference = reference;
    once = once;
    own = record {
      rest = rest;
      type = (types, nullable, inr const);
      values = inr enum;
      all_of = all;
      const = (absent-once (codes "const") ms const, inl const, later);
      items = items;
    };
  }

  pub nothing : AreGood no_members
  unfolding asked_of_keywords
  nothing = record {
    own = class-of no_members tt refl (R.lacking no_members (refl, refl, missing-none of_draft2019_09 no_members refl)) tt refl refl refl tt
        (refl, tt, tt, refl, refl) (missing-none of_draft06 no_members refl);
    inside = tt;
  }

  -- ---- schemas

  -- a schema that is of the class everywhere
  pub record IsGood (s : Data) : Type 0 where
    pub schema : IsSchema s
    pub everywhere : Everywhere (Class R) s

  pub good : (ms : Members) → AreGood ms → IsGood (object ms)
  unfolding asked
  good ms is = record { schema = tt; everywhere = (is.own, is.inside) }

  pub good_truth : (b : Bool) → IsGood (boolean b)
  unfolding asked
  good_truth b = record { schema = tt; everywhere = tt }

  pub good-members : (s : Data) → IsGood s → AreGood (members_in s)
  unfolding asked
  good-members (boolean true) is = nothing
  good-members (boolean false) is =
      are-put (codes "not") (object no_members) no_members refl (good no_members nothing).everywhere nothing
  good-members (object ms) is = record { own = is.everywhere.0; inside = is.everywhere.1 }
  good-members _ is = absurd is.schema

  -- ---- notes

  are-noted : (notes ms : Members) → AreNotes notes → AreGood ms → AreGood (put_members notes ms)
  are-noted no_members ms noted is = is
  are-noted (member k d notes) ms noted is =
      are-noted notes (put k d ms) noted.1
      (are-put k d ms (note-unwatched k noted.0) (asked-nothing (Class R) k d (note-place k noted.0)) is)

  pub good-annotated : (notes : Members) (s : Data) → AreNotes notes → IsGood s → IsGood (annotated notes s)
  good-annotated no_members s noted is = is
  good-annotated (member k d notes) s noted is =
      good (put_members (member k d notes) (members_in s)) (are-noted (member k d notes) (members_in s) noted (good-members s is))

  pub good-noted_by : (notes : List Members) (s : Data) → AllNotes notes → IsGood s → IsGood (noted_by notes s)
  good-noted_by [] s noted is = is
  good-noted_by (notes ∷ more) s noted is = good-annotated notes (noted_by more s) noted.0 (good-noted_by more s noted.1 is)

  -- ---- null

  -- what is added to other types leaves them others
  types-with : (t : Data) → AreSomeTypes (Some t) → AreSomeTypes (Some (type_with_null t))
  types-with null is = tt
  types-with (boolean b) is = tt
  types-with (number n) is = tt
  types-with (object ms) is = tt
  types-with (string s) is = go (bytes_eq s (codes "null"))
    where
      go : (b : Bool) → AreSomeTypes (Some (if b then string s else array (item (string s) (item (string (codes "null")) no_items))))
      go true = tt
      go false = (tt, (tt, tt))
  types-with (array no_items) is = absurd is
  types-with (array (item d ds)) is = go (holds_text (codes "null") (item d ds))
    where
      texts : (ds : Items) → AreTexts ds → AreTexts (with_item ds (string (codes "null")))
      texts no_items are = (tt, tt)
      texts (item e es) are = (are.0, texts es are.1)

      go : (b : Bool) → AreSomeTypes (Some (if b then array (item d ds) else array (with_item (item d ds) (string (codes "null")))))
      go true = is
      go false = (is.0, texts ds is.1)

  alone-with : (t : Data) → AreSomeTypes (Some t) → is_null_alone (Some t) ≡ false → is_null_alone (Some (type_with_null t)) ≡ false
  alone-with null is out = refl
  alone-with (boolean b) is out = refl
  alone-with (number n) is out = refl
  alone-with (object ms) is out = refl
  alone-with (string s) is out = rw out (rw out refl)
  alone-with (array no_items) is out = absurd is
  alone-with (array (item (string s) ds)) is out = go (bytes_eq s (codes "null") || holds_text (codes "null") ds) refl
    where
      and-no : (b : Bool) → b && false ≡ false
      and-no true = refl
      and-no false = refl

      left : (a b : Bool) → a || b ≡ false → a ≡ false
      left true b is = is
      left false b is = refl

      first : (a : Bool) → a ≡ false → (b c : Bool) → (a || b) && (a && c) ≡ false
      first true is b c = absurd (true≢false is)
      first false is b c = and-no b

      go : (b : Bool) → bytes_eq s (codes "null") || holds_text (codes "null") ds ≡ b
          → is_null_alone (Some (if b then array (item (string s) ds)
          else array (item (string s) (with_item ds (string (codes "null")))))) ≡ false
      go true held = out
      go false held = first (bytes_eq s (codes "null")) (left (bytes_eq s (codes "null")) (holds_text (codes "null") ds) held) _ _
  alone-with (array (item null ds)) is out = absurd is.0
  alone-with _ is out = absurd is.0

  are-null_in_type : (o : Option Data) (ms : Members) → get_member (codes "type") ms ≡ o → AreGood ms → AreGood (null_in_type o ms)
  are-null_in_type None ms here is = is
  are-null_in_type (Some t) ms here is =
      are-types (type_with_null t) ms (types-with t types) (go is.own.own.type.2 is.own.own.values) is
    where
      types : AreSomeTypes (Some t)
      types = subst AreSomeTypes here is.own.own.type.0

      go : (is_null_alone (get_member (codes "type") ms) ≡ false) ⊎ (get_member (codes "const") ms ≡ None)
          → (is_null_alone (get_member (codes "type") ms) ≡ false) ⊎ (get_member (codes "enum") ms ≡ None)
          → (is_null_alone (Some (type_with_null t)) ≡ false)
          ⊎ ((get_member (codes "const") ms ≡ None) × (get_member (codes "enum") ms ≡ None))
      go (inl out) more = inl (alone-with t types (sym (ap is_null_alone here) ∙ out))
      go (inr none) (inl out) = inl (alone-with t types (sym (ap is_null_alone here) ∙ out))
      go (inr none) (inr no_enum) = inr (none, no_enum)

  -- beside a value the type is not null alone
  beside : (k : Text) (ms : Members) (d : Data) → get_member k ms ≡ Some d
      → (is_null_alone (get_member (codes "type") ms) ≡ false) ⊎ (get_member k ms ≡ None)
      → is_null_alone (get_member (codes "type") ms) ≡ false
  beside k ms d here (inl out) = out
  beside k ms d here (inr none) = let never : Some d ≡ None = sym here ∙ none in cc

  are-null_in_enum : (o : Option Data) (ms : Members) → get_member (codes "enum") ms ≡ o → get_member (codes "const") ms ≡ None → AreGood ms
      → AreGood (null_in_enum o ms)
  are-null_in_enum None ms here const is = is
  are-null_in_enum (Some d) ms here const is = are-enum (enum_with_null d) ms const (beside (codes "enum") ms d here is.own.own.values) is

  are-null_in_const : (o : Option Data) (ms : Members) → get_member (codes "const") ms ≡ o → AreGood ms → AreGood (null_in_const o ms)
  are-null_in_const None ms here is = are-null_in_enum (get_member (codes "enum") ms) ms refl here is
  are-null_in_const (Some c) ms here is = go (is_null c)
    where
      alone : is_null_alone (get_member (codes "type") ms) ≡ false
      alone = beside (codes "const") ms c here is.own.own.type.2

      go : (b : Bool) → AreGood (if b then ms else const_or_null c ms)
      go true = is
      go false =
          are-enum (array (item c (item null no_items))) (without (codes "const") ms) is.own.own.const.0
          (ap is_null_alone (without-other (codes "const") (codes "type") ms (differ (codes "type") (codes "const") refl)) ∙ alone)
          (without-const ms alone is)

  null_alone : IsGood (allow_null (boolean false))
  null_alone = good _ (are-types (string (codes "null")) no_members tt (inr (refl, refl)) nothing)

  or-null : (s : Data) → IsGood s → IsGood (or_null s)
  unfolding asked
  or-null s is =
      good _ (are-put (codes "anyOf") (array (item s (item (allow_null (boolean false)) no_items))) no_members refl
      (is.everywhere, (null_alone.everywhere, tt)) nothing)

  pub good-allow_null : (s : Data) → IsGood s → IsGood (allow_null s)
  good-allow_null (boolean true) is = is
  good-allow_null (boolean false) is = null_alone
  good-allow_null (object ms) is = go (is_null_choice (object ms)) (is_combined (object ms))
    where
      typed : Members
      typed = null_in_type (get_member (codes "type") ms) ms

      go : (stays b : Bool) → IsGood (if stays then object ms else if b then or_null (object ms) else
          object (null_in_values (null_in_type (get_member (codes "type") ms) ms)))
      go true b = is
      go false true = or-null (object ms) is
      go false false =
          good _ (are-null_in_const (get_member (codes "const") typed) typed refl
          (are-null_in_type (get_member (codes "type") ms) ms refl (good-members (object ms) is)))
  good-allow_null null is = absurd is.schema
  good-allow_null _ is = absurd is.schema
