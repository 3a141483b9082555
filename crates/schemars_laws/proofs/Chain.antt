-- All transforms of OpenAPI, over documents that hold definitions at /components/schemas and nothing else.
use Rattle.std.proofs.Common.{◌≡◌, ℕ, suc, Option, Some, None, true, codes, option_map, refl, sym, ap, ◌∙◌, subst}
use Rattle.schemars_laws.proofs.Words.{Data, null, boolean, number, string, array, object, no_items, item, Members, no_members, member, get_member, pointer, members_len, Text, IsSchema, Dialect, Patterns, draft2020_12, openapi3, accepts, plain-components, pointer-components, differ, Rules, in_keywords, rewritten, bool_rules, without_siblings, with_single_example, const_as_enum, prefix_as_items, unevaluated_as_additional, Everywhere, HasPlainItems, HasPlainReference, HasPlainType, HasNoUnevaluated, IsTypes, IsConstAlone, without_unevaluated, with_nullable_read, alone_by, without_const, HasPlainUnevaluated, NamedBy, IsDefinitionAt, EachEverywhere, each_changed, components, components_of, AreSomeTypes, Stands, IsForOpenApi, AfterNullable, AfterSiblings, Anything, MovesToOpenApi, for_openapi3, forms, in_names}
use Rattle.schemars_transform.specs.declared.built_in.bool_schemas.ReplaceBoolSchemas.{ReplaceBoolSchemas}
use Rattle.schemars_laws.proofs.Moved.{Rewrites, schema-moved}
use Rattle.schemars_laws.proofs.Looked.{change_rules, items-walked}
use Rattle.schemars_laws.proofs.Preserved.{Preserves, after, weaker}
use Rattle.schemars_laws.proofs.Nullable.{nullable_change}
use Rattle.schemars_laws.proofs.BoolSchemas.{bool_schemas}
use Rattle.schemars_laws.proofs.Paths.{names_get, definition-leads}
use Rattle.schemars_laws.proofs.Plain.{none-plain, const-plain, neither-plain}
use Rattle.schemars_laws.proofs.Laws.{unevaluated-moves, nullable-moves, siblings-moves, example-moves, const-moves, prefix-moves}
use Rattle.schemars_laws.proofs.Steps.{text-alone, text-named}
use Rattle.schemars_laws.proofs.Seven.{keep-unevaluated, keep-bool, keep-nullable, keep-siblings, keep-example, keep-const, keep-positions}

-- ---- a step

pub components-found : (es : Members) → pointer components (components_of es) ≡ Some (object es)
components-found es = pointer-components (member (codes "components") (object (member (codes "schemas") (object es) no_members)) no_members)
    (member (codes "schemas") (object es) no_members) (object es) refl refl

-- what a transform moves, and what it keeps
record Moving (N : Text → Type 0) {R : Type 0} (ρ : Rules R) (old new : Dialect) (P Q : Members → Type 0) : Type 1 where
  asks : Members → Type 0
  unevaluated : (ms : Members) → Stands N P ms → HasPlainUnevaluated old ms
  own : (ms : Members) → Stands N P ms → asks ms
  rewrites : Rewrites ρ old new asks
  keeps : Preserves ρ (Stands N P) (Stands N Q)

-- ---- the dialects in between

abbrev unevaluated_gone : Dialect
unevaluated_gone = without_unevaluated draft2020_12

abbrev nullable_read : Dialect
nullable_read = with_nullable_read unevaluated_gone

abbrev siblings_passed : Dialect
siblings_passed = alone_by nullable_read

abbrev const_passed : Dialect
const_passed = without_const siblings_passed

abbrev skip : ReplaceBoolSchemas
skip = record { skip_additional_properties = true }

are_types : (o : Option Data) → AreSomeTypes o → IsTypes o
are_types None is = tt
are_types (Some null) is = tt
are_types (Some (boolean b)) is = tt
are_types (Some (number n)) is = tt
are_types (Some (string s)) is = tt
are_types (Some (array no_items)) is = absurd is
are_types (Some (array (item d ds))) is = is
are_types (Some (object ms)) is = tt

-- ---- all of them

-- the definitions after one transform, after two, and so on
abbrev e1 : Members → Members
e1 es = in_names (change_rules unevaluated_as_additional) tt es

abbrev e2 : Members → Members
e2 es = in_names bool_rules skip (e1 es)

abbrev e3 : Members → Members
e3 es = in_names (change_rules nullable_change) tt (e2 es)

abbrev e4 : Members → Members
e4 es = in_names (change_rules without_siblings) tt (e3 es)

abbrev e5 : Members → Members
e5 es = in_names (change_rules with_single_example) tt (e4 es)

abbrev e6 : Members → Members
e6 es = in_names (change_rules const_as_enum) tt (e5 es)

abbrev pub all_seven : Members → Members
all_seven es = in_names (change_rules prefix_as_items) tt (e6 es)

module _ (N : Text → Type 0) (are : (t : Text) → N t → IsDefinitionAt components t) where
  module _ {R : Type 0} (ρ : Rules R) (r : R) (old new : Dialect) (P Q : Members → Type 0) (h : Moving N ρ old new P Q) where
    all-after : (es : Members) → EachEverywhere (Stands N P) es → EachEverywhere (Stands N Q) (in_names ρ r es)
    all-after es all k d found = go (get_member k es) refl (sym (names_get ρ r k es) ∙ found)
      where
        some : {x y : Data} → Some x ≡ Some y → x ≡ y
        some e = cc

        go : (o : Option Data) → get_member k es ≡ o → option_map (λ e. (forms ρ r e).as_schema) o ≡ Some d → Everywhere (Stands N Q) d
        go None at is = cc
        go (Some e) at is = subst (Everywhere (Stands N Q)) (some is) (after ρ (Stands N P) (Stands N Q) h.keeps r e (all k e at))

    one-after : (d : Data) → Everywhere (Stands N P) d → Everywhere (Stands N Q) (rewritten ρ r d)
    one-after d is = after ρ (Stands N P) (Stands N Q) h.keeps r d is

    step : (es : Members) → EachEverywhere (Stands N P) es → (patterns : Patterns) (n : ℕ) (part v : Data) → Everywhere (Stands N P) part
        → accepts new (components_of (in_names ρ r es)) patterns n (rewritten ρ r part) v ≡ accepts old (components_of es) patterns n part v
    step es all patterns n part v is =
        schema-moved ρ N old new h.asks h.rewrites (components_of es) (components_of (in_names ρ r es))
        (λ t is. definition-leads ρ r components plain-components (NamedBy old N h.asks) (components_of es)
        (components_of (in_names ρ r es)) h.rewrites.schema (record {
          entries = es;
          before = components-found es;
          after = components-found (in_names ρ r es);
          each = λ k d found. down d (all k d found);
        }) t (are t is)) patterns n r part v (down part is)
      where
        down : (d : Data) → Everywhere (Stands N P) d → Everywhere (NamedBy old N h.asks) d
        down d is =
            weaker (Stands N P) (NamedBy old N h.asks)
            (λ ms is. (text-named N (get_member (codes "$ref") ms) is.reference, h.unevaluated ms is, h.own ms is)) d is

  -- ---- the seven

  first : Moving N (change_rules unevaluated_as_additional) draft2020_12 unevaluated_gone IsForOpenApi IsForOpenApi
  first = record {
    asks = HasNoUnevaluated;
    unevaluated = λ ms is. none-plain draft2020_12 ms is.own.unevaluated;
    own = λ ms is. is.own.unevaluated;
    rewrites = (unevaluated-moves (codes "$defs") refl draft2020_12 (differ (codes "$defs") (codes "properties") refl)).rewrites;
    keeps = keep-unevaluated N;
  }

  second : Moving N bool_rules unevaluated_gone unevaluated_gone IsForOpenApi IsForOpenApi
  second = record {
    asks = IsForOpenApi;
    unevaluated = λ ms is. const-plain unevaluated_gone ms refl is.own.const;
    own = λ ms is. is.own;
    rewrites = (bool_schemas (codes "$defs") unevaluated_gone IsForOpenApi).rewrites;
    keeps = keep-bool N;
  }

  third : Moving N (change_rules nullable_change) unevaluated_gone nullable_read IsForOpenApi AfterNullable
  third = record {
    asks = HasPlainType;
    unevaluated = λ ms is. const-plain unevaluated_gone ms refl is.own.const;
    own = λ ms is. (are_types (get_member (codes "type") ms) is.own.type.0, is.own.type.1, is.own.type.2);
    rewrites = (nullable-moves (codes "$defs") refl unevaluated_gone).rewrites;
    keeps = keep-nullable N;
  }

  fourth : Moving N (change_rules without_siblings) nullable_read siblings_passed AfterNullable AfterSiblings
  fourth = record {
    asks = HasPlainReference;
    unevaluated = λ ms is. const-plain nullable_read ms refl is.own.1;
    own = λ ms is. (is.once, text-alone N (get_member (codes "$ref") ms) is.reference, is.own.0);
    rewrites = (siblings-moves (codes "$defs") refl nullable_read).rewrites;
    keeps = keep-siblings N;
  }

  fifth : Moving N (change_rules with_single_example) siblings_passed siblings_passed AfterSiblings AfterSiblings
  fifth =
      let moved = (example-moves (codes "$defs") refl siblings_passed AfterSiblings).rewrites in
      record {
        asks = AfterSiblings;
        unevaluated = λ ms is. const-plain siblings_passed ms refl is.own.0;
        own = λ ms is. is.own;
        rewrites = moved;
        keeps = keep-example N (λ s is. moved.schema tt s is);
      }

  sixth : Moving N (change_rules const_as_enum) siblings_passed const_passed AfterSiblings HasPlainItems
  sixth =
      let moved = (const-moves (codes "$defs") refl siblings_passed).rewrites in
      record {
        asks = IsConstAlone;
        unevaluated = λ ms is. const-plain siblings_passed ms refl is.own.0;
        own = λ ms is. is.own.0;
        rewrites = moved;
        keeps = keep-const N (λ s is. moved.schema tt s is);
      }

  seventh : Moving N (change_rules prefix_as_items) const_passed openapi3 HasPlainItems Anything
  seventh =
      let moved = (prefix-moves (codes "$defs") refl const_passed).rewrites in
      record {
        asks = HasPlainItems;
        unevaluated = λ ms is. neither-plain const_passed ms refl refl;
        own = λ ms is. is.own;
        rewrites = moved;
        keeps = keep-positions N (λ s is. moved.schema tt s is)
            (λ ms is. items-walked prefix_as_items (λ s is. moved.schema tt s is) ms is);
      }

  -- the definitions before each, and a part before each
  module _ (es : Members) (all : EachEverywhere (Stands N IsForOpenApi) es) where
    a1 : EachEverywhere (Stands N IsForOpenApi) (e1 es)
    a1 = all-after (change_rules unevaluated_as_additional) tt draft2020_12 unevaluated_gone IsForOpenApi IsForOpenApi first es all

    a2 : EachEverywhere (Stands N IsForOpenApi) (e2 es)
    a2 = all-after bool_rules skip unevaluated_gone unevaluated_gone IsForOpenApi IsForOpenApi second (e1 es) a1

    a3 : EachEverywhere (Stands N AfterNullable) (e3 es)
    a3 = all-after (change_rules nullable_change) tt unevaluated_gone nullable_read IsForOpenApi AfterNullable third (e2 es) a2

    a4 : EachEverywhere (Stands N AfterSiblings) (e4 es)
    a4 = all-after (change_rules without_siblings) tt nullable_read siblings_passed AfterNullable AfterSiblings fourth (e3 es) a3

    a5 : EachEverywhere (Stands N AfterSiblings) (e5 es)
    a5 = all-after (change_rules with_single_example) tt siblings_passed siblings_passed AfterSiblings AfterSiblings fifth (e4 es) a4

    a6 : EachEverywhere (Stands N HasPlainItems) (e6 es)
    a6 = all-after (change_rules const_as_enum) tt siblings_passed const_passed AfterSiblings HasPlainItems sixth (e5 es) a5

    -- at the end references are still names of definitions
    pub names-at_end : EachEverywhere (Stands N Anything) (all_seven es)
    names-at_end = all-after (change_rules prefix_as_items) tt const_passed openapi3 HasPlainItems Anything seventh (e6 es) a6

    module _ (part : Data) (is : Everywhere (Stands N IsForOpenApi) part) where
      abbrev s1 : Data
      s1 = rewritten (change_rules unevaluated_as_additional) tt part

      abbrev s2 : Data
      s2 = rewritten bool_rules skip s1

      abbrev s3 : Data
      s3 = rewritten (change_rules nullable_change) tt s2

      abbrev s4 : Data
      s4 = rewritten (change_rules without_siblings) tt s3

      abbrev s5 : Data
      s5 = rewritten (change_rules with_single_example) tt s4

      abbrev s6 : Data
      s6 = rewritten (change_rules const_as_enum) tt s5

      p1 : Everywhere (Stands N IsForOpenApi) s1
      p1 = one-after (change_rules unevaluated_as_additional) tt draft2020_12 unevaluated_gone IsForOpenApi IsForOpenApi first part is

      p2 : Everywhere (Stands N IsForOpenApi) s2
      p2 = one-after bool_rules skip unevaluated_gone unevaluated_gone IsForOpenApi IsForOpenApi second s1 p1

      p3 : Everywhere (Stands N AfterNullable) s3
      p3 = one-after (change_rules nullable_change) tt unevaluated_gone nullable_read IsForOpenApi AfterNullable third s2 p2

      p4 : Everywhere (Stands N AfterSiblings) s4
      p4 = one-after (change_rules without_siblings) tt nullable_read siblings_passed AfterNullable AfterSiblings fourth s3 p3

      p5 : Everywhere (Stands N AfterSiblings) s5
      p5 = one-after (change_rules with_single_example) tt siblings_passed siblings_passed AfterSiblings AfterSiblings fifth s4 p4

      p6 : Everywhere (Stands N HasPlainItems) s6
      p6 = one-after (change_rules const_as_enum) tt siblings_passed const_passed AfterSiblings HasPlainItems sixth s5 p5

      -- a part of this class accepts under OpenAPI, after all transforms, what it accepted under 2020-12
      pub openapi-law : (patterns : Patterns) (n : ℕ) (v : Data)
          → accepts openapi3 (components_of (all_seven es)) patterns n (for_openapi3 part) v
          ≡ accepts draft2020_12 (components_of es) patterns n part v
      openapi-law patterns n v =
          step (change_rules prefix_as_items) tt const_passed openapi3 HasPlainItems Anything seventh (e6 es) a6 patterns n s6 v p6
          ∙ (step (change_rules const_as_enum) tt siblings_passed const_passed AfterSiblings HasPlainItems sixth
          (e5 es) a5 patterns n s5 v p5
          ∙ (step (change_rules with_single_example) tt siblings_passed siblings_passed AfterSiblings AfterSiblings fifth
          (e4 es) a4 patterns n s4 v p4
          ∙ (step (change_rules without_siblings) tt nullable_read siblings_passed AfterNullable AfterSiblings fourth
          (e3 es) a3 patterns n s3 v p3
          ∙ (step (change_rules nullable_change) tt unevaluated_gone nullable_read IsForOpenApi AfterNullable third
          (e2 es) a2 patterns n s2 v p2
          ∙ (step bool_rules skip unevaluated_gone unevaluated_gone IsForOpenApi IsForOpenApi second (e1 es) a1 patterns n s1 v p1
          ∙ step (change_rules unevaluated_as_additional) tt draft2020_12 unevaluated_gone IsForOpenApi IsForOpenApi first
          es all patterns n part v is)))))

  schema-after : {R : Type 0} (ρ : Rules R) (r : R) → ((r : R) (s : Data) → IsSchema s → IsSchema (ρ.finish r s)) → (d : Data)
      → IsSchema d → IsSchema (rewritten ρ r d)
  unfolding forms
  schema-after ρ r h (boolean b) is = h (ρ.inside r (boolean b)) (boolean b) tt
  schema-after ρ r h (object ms) is = h (ρ.inside r (object ms)) (object (in_keywords ρ (ρ.inside r (object ms)) ms)) tt
  schema-after ρ r h _ is = absurd is

  pub schema-at_end : (d : Data) → IsSchema d → IsSchema (for_openapi3 d)
  schema-at_end d is =
      schema-after (change_rules prefix_as_items) tt seventh.rewrites.schema _
      (schema-after (change_rules const_as_enum) tt sixth.rewrites.schema _
      (schema-after (change_rules with_single_example) tt fifth.rewrites.schema _
      (schema-after (change_rules without_siblings) tt fourth.rewrites.schema _
      (schema-after (change_rules nullable_change) tt third.rewrites.schema _
      (schema-after bool_rules skip second.rewrites.schema _
      (schema-after (change_rules unevaluated_as_additional) tt first.rewrites.schema d is))))))

-- ---- which definitions there are

len-after : {R : Type 0} (ρ : Rules R) (r : R) (es : Members) → members_len (in_names ρ r es) ≡ members_len es
unfolding in_names
len-after ρ r no_members = refl
len-after ρ r (member k d es) = ap suc (len-after ρ r es)

pub len-at_end : (es : Members) → members_len (all_seven es) ≡ members_len es
len-at_end es =
    len-after (change_rules prefix_as_items) tt (e6 es)
    ∙ (len-after (change_rules const_as_enum) tt (e5 es)
    ∙ (len-after (change_rules with_single_example) tt (e4 es)
    ∙ (len-after (change_rules without_siblings) tt (e3 es)
    ∙ (len-after (change_rules nullable_change) tt (e2 es)
    ∙ (len-after bool_rules skip (e1 es)
    ∙ len-after (change_rules unevaluated_as_additional) tt es)))))

get-after : {R : Type 0} (ρ : Rules R) (r : R) (k : Text) (es : Members) (o : Option Data) → get_member k es ≡ o
    → get_member k (in_names ρ r es) ≡ option_map (rewritten ρ r) o
get-after ρ r k es o found = names_get ρ r k es ∙ ap (option_map (rewritten ρ r)) found

pub found-at_end : (k : Text) (es : Members) (d : Data) → get_member k es ≡ Some d → get_member k (all_seven es) ≡ Some (for_openapi3 d)
found-at_end k es d found =
    get-after (change_rules prefix_as_items) tt k (e6 es) (Some _)
    (get-after (change_rules const_as_enum) tt k (e5 es) (Some _)
    (get-after (change_rules with_single_example) tt k (e4 es) (Some _)
    (get-after (change_rules without_siblings) tt k (e3 es) (Some _)
    (get-after (change_rules nullable_change) tt k (e2 es) (Some _)
    (get-after bool_rules skip k (e1 es) (Some _)
    (get-after (change_rules unevaluated_as_additional) tt k es (Some d) found))))))

pub missing-at_end : (k : Text) (es : Members) → get_member k es ≡ None → get_member k (all_seven es) ≡ None
missing-at_end k es none =
    get-after (change_rules prefix_as_items) tt k (e6 es) None
    (get-after (change_rules const_as_enum) tt k (e5 es) None
    (get-after (change_rules with_single_example) tt k (e4 es) None
    (get-after (change_rules without_siblings) tt k (e3 es) None
    (get-after (change_rules nullable_change) tt k (e2 es) None
    (get-after bool_rules skip k (e1 es) None
    (get-after (change_rules unevaluated_as_additional) tt k es None none))))))

-- ---- by the functions of the transforms alone

pub seven-each : (es : Members) → all_seven es ≡ each_changed for_openapi3 es
unfolding in_names
seven-each no_members = refl
seven-each (member k d es) = ap (member k (for_openapi3 d)) (seven-each es)

pub openapi3-law : MovesToOpenApi for_openapi3
openapi3-law es all patterns n part v is =
    subst (λ ds. accepts openapi3 (components_of ds) patterns n (for_openapi3 part) v
    ≡ accepts draft2020_12 (components_of es) patterns n part v)
    (seven-each es) (openapi-law (IsDefinitionAt components) (λ t is. is) es all part is patterns n v)
