-- What each of the seven transforms of OpenAPI keeps of the classes.
use Rattle.std.proofs.Common.{◌≡◌, ◌⊎◌, inl, inr, Option, Some, None, Bool, true, false, codes, refl, sym, ap, ◌∙◌, subst, true≢false}
use Rattle.schemars_laws.proofs.Words.{bytes_eq, if◌then◌else◌, ◌==◌, Data, null, boolean, number, string, array, object, no_items, item, Members, no_members, member, put, get_member, members_len, Text, IsSchema, members_in, without, replaced, holds_text, SchemaOrList, draft2020_12, differ, in_keywords, bool_rules, reference_moved, without_siblings, first_as_example, with_single_example, value_as_enum, const_as_enum, prefix_as_items, prefix_moved, old_items_moved, all_null, nulls_in, nullable_by, null_taken_out, type_without_null, unevaluated_as_additional, closed_by, demanded, asked_of_keywords, IsSchemaList, is_null_alone, HasNone, of_draft06, of_draft2019_09, IsConstAlone, HasPlainItems, plain_nullable, IsTextWith, Stands, IsForOpenApi, AfterNullable, AfterSiblings, Anything, asked}
use Rattle.schemars_laws.proofs.Looked.{change_rules}
use Rattle.schemars_laws.proofs.Siblings.{schema-siblings, moved_members}
use Rattle.schemars_laws.proofs.Nullable.{nullable_change, nullable}
use Rattle.schemars_laws.proofs.Unevaluated.{schema-unevaluated}
use Rattle.schemars_laws.proofs.BoolSchemas.{bool_schemas}
use Rattle.schemars_laws.proofs.Plain.{Alike, all-none, items-alike, alike-without, unlisted, none-alike}
use Rattle.schemars_laws.proofs.Preserved.{Preserves, asked-without, asked-put, asked-replaced, asked-get}
use Rattle.schemars_laws.proofs.Editing.{alike-put, alike-replaced, alike-moved, alike-then, alike-same, asked-moved, once-moved, gone-moved, once-put, absent-once, type-alike, values-alike, const-alike, stands-alike}
use Rattle.schemars_laws.proofs.Steps.{goes-down-here, by_change, place-bool, first-walked, nullable-walked, siblings-walked, stands-walked}

-- an object without members has none of the newer keywords
no_newer : HasNone of_draft06 no_members
no_newer = all-none of_draft06 no_members (λ k there. refl)

no_newest : HasNone of_draft2019_09 no_members
no_newest = all-none of_draft2019_09 no_members (λ k there. refl)

module _ (N : Text → Type 0) where
  -- ---- the first two

  without-unevaluated : (ns : Members) → Stands N IsForOpenApi ns → Stands N IsForOpenApi (without (codes "unevaluatedProperties") ns)
  without-unevaluated ns is = record {
    reference = subst (IsTextWith N) (sym (a (codes "$ref") refl).first) is.reference;
    once = (a (codes "$ref") refl).others ∙ is.once;
    own = record {
      unevaluated = (
        absent-once (codes "unevaluatedProperties")
            (without (codes "unevaluatedProperties") ns) is.own.unevaluated.0,
        is.own.unevaluated.0,
        none-alike of_draft2019_09 (without (codes "unevaluatedProperties") ns) ns
            (λ k there. (a k (unlisted k (codes "unevaluatedProperties") of_draft2019_09 there refl)).first) is.own.unevaluated.2,
      );
      type = type-alike (without (codes "unevaluatedProperties") ns) ns (a (codes "type") refl) (a (codes "nullable") refl)
          (a (codes "const") refl) is.own.type;
      values = values-alike (without (codes "unevaluatedProperties") ns) ns (a (codes "type") refl) (a (codes "enum") refl) is.own.values;
      all_of = subst IsSchemaList (sym (a (codes "allOf") refl).first) is.own.all_of;
      const = const-alike (without (codes "unevaluatedProperties") ns) ns (a (codes "const") refl) (a (codes "enum") refl)
          (none-alike of_draft06 (without (codes "unevaluatedProperties") ns) ns
          (λ k there. (a k (unlisted k (codes "unevaluatedProperties") of_draft06 there refl)).first) is.own.const.2)
          is.own.const;
      items = items-alike (without (codes "unevaluatedProperties") ns) ns (a (codes "prefixItems") refl) (a (codes "items") refl)
          (a (codes "additionalItems") refl) (a (codes "contains") refl) is.own.items;
    };
  }
    where
      a : (k : Text) → bytes_eq k (codes "unevaluatedProperties") ≡ false → Alike k (without (codes "unevaluatedProperties") ns) ns
      a k is = alike-without k (codes "unevaluatedProperties") ns is

  pub keep-unevaluated : Preserves (change_rules unevaluated_as_additional) (Stands N IsForOpenApi) (Stands N IsForOpenApi)
  unfolding asked
  keep-unevaluated =
      by_change unevaluated_as_additional N IsForOpenApi IsForOpenApi schema-unevaluated (λ b. tt)
      (λ ms is. first-walked (change_rules unevaluated_as_additional) (goes-down-here unevaluated_as_additional)
      (λ r s is. schema-unevaluated s is) N tt ms is)
      (λ ns is a. subst (λ o. (asked (Stands N IsForOpenApi) (closed_by o (object (without (codes "unevaluatedProperties") ns)))).as_schema)
      (sym is.own.unevaluated.1) (without-unevaluated ns is, asked-without (Stands N IsForOpenApi) (codes "unevaluatedProperties") ns a))

  nothing-first : Stands N IsForOpenApi no_members
  nothing-first = record {
    reference = tt;
    once = refl;
    own = record {
      unevaluated = (refl, refl, no_newest);
      type = (tt, refl, inl refl);
      values = inl refl;
      all_of = tt;
      const = (refl, inl refl, no_newer);
      items = (refl, tt, tt, refl, refl);
    };
  }

  not-first : Stands N IsForOpenApi (member (codes "not") (object no_members) no_members)
  not-first = record {
    reference = tt;
    once = refl;
    own = record {
      unevaluated = (refl, refl, no_newest);
      type = (tt, refl, inl refl);
      values = inl refl;
      all_of = tt;
      const = (refl, inl refl, no_newer);
      items = (refl, tt, tt, refl, refl);
    };
  }

  pub keep-bool : Preserves bool_rules (Stands N IsForOpenApi) (Stands N IsForOpenApi)
  unfolding asked
  keep-bool = record {
    place = (bool_schemas (codes "$defs") draft2020_12 IsForOpenApi).rewrites.place;
    schema = λ r s is. tt;
    of_truth = λ r b. truth b;
    of_object = λ r ms is a. (
      stands-walked bool_rules place-bool (λ r s is. tt) N r ms IsForOpenApi
          (first-walked bool_rules place-bool (λ r s is. tt) N r ms) is,
      a,
    );
  }
    where
      truth : (b : Bool) → (asked (Stands N IsForOpenApi) (object (members_in (boolean b)))).as_schema
      truth true = (nothing-first, tt)
      truth false = (not-first, ((nothing-first, tt), tt))

  -- ---- `nullable`

  abbrev nulled : Members → Members
  nulled ms = put (codes "nullable") (boolean true) ms

  abbrev alone_members : Members → Members
  alone_members ms = without (codes "type") (put (codes "const") null (nulled ms))

  -- by what stands under `type`: what is made where null is missing, alone, or among others
  module _ (P : Data → Type 0) (ms : Members) (missing : P (object ms))
      (alone : is_null_alone (get_member (codes "type") ms) ≡ true → P (object (alone_members ms)))
      (among : (d : Data) → P (object (replaced (codes "type") d (nulled ms)))) (nulls : P (object (nulled ms))) where
    taken : (o : Option Data) → P (null_taken_out o (object (nulled ms)))
    taken None = nulls
    taken (Some t) = among (type_without_null t)

    by_kind : (o : Option Data) → get_member (codes "type") ms ≡ o → P (nullable_by plain_nullable (nulls_in o) (object ms))
    by_kind None here = missing
    by_kind (Some null) here = missing
    by_kind (Some (boolean b)) here = missing
    by_kind (Some (number n)) here = missing
    by_kind (Some (string s)) here = go (bytes_eq s (codes "null")) refl
      where
        go : (b : Bool) → bytes_eq s (codes "null") ≡ b
            → P (nullable_by plain_nullable (if b then nulls_in (Some (string (codes "null"))) else nulls_in None) (object ms))
        go true is = alone (ap is_null_alone here ∙ is)
        go false is = missing
    by_kind (Some (array ds)) here = go (holds_text (codes "null") ds) refl (all_null ds) refl
      where
        go : (b : Bool) → holds_text (codes "null") ds ≡ b → (a : Bool) → all_null ds ≡ a
            → P (nullable_by plain_nullable
            (if b then (if a then nulls_in (Some (string (codes "null")))
            else nulls_in (Some (array (item (string (codes "null")) (item null no_items))))) else nulls_in None)
            (object ms))
        go false is a all = missing
        go true is true all = alone (ap is_null_alone here ∙ rw (is, all) refl)
        go true is false all = taken (get_member (codes "type") (nulled ms))
    by_kind (Some (object es)) here = missing

  after-alike : (ns ms : Members) → Alike (codes "$ref") ns ms → Alike (codes "allOf") ns ms → IsConstAlone ns
      → Alike (codes "prefixItems") ns ms → Alike (codes "items") ns ms → Alike (codes "additionalItems") ns ms
      → Alike (codes "contains") ns ms → Stands N IsForOpenApi ms → Stands N AfterNullable ns
  after-alike ns ms ref all const prefix items additional contains is =
      stands-alike N IsForOpenApi AfterNullable ns ms ref
      (subst IsSchemaList (sym all.first) is.own.all_of, const, items-alike ns ms prefix items additional contains is.own.items) is

  made : (P : Members → Type 0) (ns : Members) → Stands N P ns → asked_of_keywords (Stands N P) ns
      → (asked (Stands N P) (object ns)).as_schema
  unfolding asked
  made P ns is a = (is, a)

  pub keep-nullable : Preserves (change_rules nullable_change) (Stands N IsForOpenApi) (Stands N AfterNullable)
  unfolding asked
  keep-nullable =
      by_change nullable_change N IsForOpenApi AfterNullable schema (λ b. tt)
      (λ ms is. first-walked (change_rules nullable_change) (goes-down-here nullable_change) (λ r s is. schema s is) N tt ms is) done
    where
      schema : (s : Data) → IsSchema s → IsSchema (nullable_change s)
      schema =
          (nullable (codes "$defs") draft2020_12 (differ (codes "$defs") (codes "type") refl) (differ (codes "$defs") (codes "const") refl)
          (differ (codes "$defs") (codes "nullable") refl)).schema

      done : (ns : Members) → Stands N IsForOpenApi ns → asked_of_keywords (Stands N AfterNullable) ns
          → (asked (Stands N AfterNullable) (nullable_change (object ns))).as_schema
      done ns is a =
          by_kind (λ s. (asked (Stands N AfterNullable) s).as_schema) ns (same, a) (λ only. (alone only, inside-alone))
          (λ d. (among d, inside-among d)) (nulls, inside-nulls)
          (get_member (codes "type") ns) refl
        where
          Q : Members → Type 0
          Q = Stands N AfterNullable

          same : Q ns
          same = stands-alike N IsForOpenApi AfterNullable ns ns (alike-same (codes "$ref") ns)
              (is.own.all_of, is.own.const, is.own.items) is

          n : (k : Text) → bytes_eq k (codes "nullable") ≡ false → Alike k (nulled ns) ns
          n k out = alike-put k (codes "nullable") (boolean true) ns out

          nulls : Q (nulled ns)
          nulls = after-alike (nulled ns) ns (n (codes "$ref") refl) (n (codes "allOf") refl)
              (const-alike (nulled ns) ns (n (codes "const") refl) (n (codes "enum") refl)
              (none-alike of_draft06 (nulled ns) ns (λ k there. (n k (unlisted k (codes "nullable") of_draft06 there refl)).first)
              is.own.const.2)
              is.own.const)
              (n (codes "prefixItems") refl) (n (codes "items") refl) (n (codes "additionalItems") refl) (n (codes "contains") refl) is

          inside-nulls : asked_of_keywords Q (nulled ns)
          inside-nulls = asked-put Q (codes "nullable") (boolean true) ns tt a

          t : (d : Data) (k : Text) → bytes_eq k (codes "type") ≡ false → bytes_eq k (codes "nullable") ≡ false
              → Alike k (replaced (codes "type") d (nulled ns)) ns
          t d k out null_out = alike-then k (replaced (codes "type") d (nulled ns)) (nulled ns) ns
              (alike-replaced k (codes "type") d (nulled ns) out) (n k null_out)

          among : (d : Data) → Q (replaced (codes "type") d (nulled ns))
          among d = after-alike (replaced (codes "type") d (nulled ns)) ns (t d (codes "$ref") refl refl)
              (t d (codes "allOf") refl refl)
              (const-alike (replaced (codes "type") d (nulled ns)) ns (t d (codes "const") refl refl)
              (t d (codes "enum") refl refl)
              (none-alike of_draft06 (replaced (codes "type") d (nulled ns)) ns
              (λ k there. (t d k (unlisted k (codes "type") of_draft06 there refl)
              (unlisted k (codes "nullable") of_draft06 there refl)).first)
              is.own.const.2)
              is.own.const)
              (t d (codes "prefixItems") refl refl) (t d (codes "items") refl refl) (t d (codes "additionalItems") refl refl)
              (t d (codes "contains") refl refl) is

          inside-among : (d : Data) → asked_of_keywords Q (replaced (codes "type") d (nulled ns))
          inside-among d = asked-replaced Q (codes "type") d (nulled ns) tt inside-nulls

          c : (k : Text) → bytes_eq k (codes "type") ≡ false → bytes_eq k (codes "const") ≡ false → bytes_eq k (codes "nullable") ≡ false
              → Alike k (alone_members ns) ns
          c k out const_out null_out =
              alike-then k (alone_members ns) (put (codes "const") null (nulled ns)) ns
              (alike-without k (codes "type") (put (codes "const") null (nulled ns)) out)
              (alike-then k (put (codes "const") null (nulled ns)) (nulled ns) ns
              (alike-put k (codes "const") null (nulled ns) const_out) (n k null_out))

          no_const : is_null_alone (get_member (codes "type") ns) ≡ true
              → (is_null_alone (get_member (codes "type") ns) ≡ false) ⊎ (get_member (codes "const") ns ≡ None)
              → get_member (codes "const") ns ≡ None
          no_const only (inl not_only) = absurd (true≢false (sym only ∙ not_only))
          no_const only (inr none) = none

          no_enum : is_null_alone (get_member (codes "type") ns) ≡ true
              → (is_null_alone (get_member (codes "type") ns) ≡ false) ⊎ (get_member (codes "enum") ns ≡ None)
              → get_member (codes "enum") ns ≡ None
          no_enum only (inl not_only) = absurd (true≢false (sym only ∙ not_only))
          no_enum only (inr none) = none

          alone : is_null_alone (get_member (codes "type") ns) ≡ true → Q (alone_members ns)
          alone only = after-alike (alone_members ns) ns (c (codes "$ref") refl refl refl)
              (c (codes "allOf") refl refl refl) (
                (alike-without (codes "const") (codes "type") (put (codes "const") null (nulled ns)) refl).others
                    ∙ once-put (codes "const") null (nulled ns) ((n (codes "const") refl).first ∙ no_const only is.own.type.2),
                inr ((c (codes "enum") refl refl refl).first ∙ no_enum only is.own.values),
                none-alike of_draft06 (alone_members ns) ns
                    (λ k there. (c k (unlisted k (codes "type") of_draft06 there refl) (unlisted k (codes "const") of_draft06 there refl)
                    (unlisted k (codes "nullable") of_draft06 there refl)).first) is.own.const.2,
              )
              (c (codes "prefixItems") refl refl refl) (c (codes "items") refl refl refl) (c (codes "additionalItems") refl refl refl)
              (c (codes "contains") refl refl refl) is

          inside-alone : asked_of_keywords Q (alone_members ns)
          inside-alone = asked-without Q (codes "type") (put (codes "const") null (nulled ns))
              (asked-put Q (codes "const") null (nulled ns) tt inside-nulls)

  -- ---- references

  pub keep-siblings : Preserves (change_rules without_siblings) (Stands N AfterNullable) (Stands N AfterSiblings)
  unfolding asked
  keep-siblings =
      by_change without_siblings N AfterNullable AfterSiblings schema-siblings (λ b. tt)
      (λ ms is. nullable-walked (change_rules without_siblings) (goes-down-here without_siblings)
      (λ r s is. schema-siblings s is) N tt ms is) done
    where
      done : (ns : Members) → Stands N AfterNullable ns → asked_of_keywords (Stands N AfterSiblings) ns
          → (asked (Stands N AfterSiblings) (without_siblings (object ns))).as_schema
      done ns is a = each (members_len ns == 1) (get_member (codes "$ref") ns) refl
        where
          Q : Members → Type 0
          Q = Stands N AfterSiblings

          same : Q ns
          same = stands-alike N AfterNullable AfterSiblings ns ns (alike-same (codes "$ref") ns)
              (is.own.1, is.own.2) is

          gone : Q (without (codes "$ref") ns)
          gone = record {
            reference = subst (IsTextWith N) (sym is.once) tt;
            once = absent-once (codes "$ref") (without (codes "$ref") ns) is.once;
            own = (
              const-alike (without (codes "$ref") ns) ns (w (codes "const") refl) (w (codes "enum") refl)
                  (none-alike of_draft06 (without (codes "$ref") ns) ns
                  (λ k there. (w k (unlisted k (codes "$ref") of_draft06 there refl)).first) is.own.1.2) is.own.1,
              items-alike (without (codes "$ref") ns) ns (w (codes "prefixItems") refl) (w (codes "items") refl)
                  (w (codes "additionalItems") refl) (w (codes "contains") refl) is.own.2,
            );
          }
            where
              w : (k : Text) → bytes_eq k (codes "$ref") ≡ false → Alike k (without (codes "$ref") ns) ns
              w k out = alike-without k (codes "$ref") ns out

          moved : (r : Data) → Q (moved_members r ns)
          moved r = record {
            reference = subst (IsTextWith N) (sym (gone-moved r ns is.once)) tt;
            once = once-moved r ns is.once;
            own = (
              const-alike (moved_members r ns) ns (w (codes "const") refl refl) (w (codes "enum") refl refl)
                  (none-alike of_draft06 (moved_members r ns) ns
                  (λ k there. (w k (unlisted k (codes "allOf") of_draft06 there refl)
                  (unlisted k (codes "$ref") of_draft06 there refl)).first) is.own.1.2) is.own.1,
              items-alike (moved_members r ns) ns (w (codes "prefixItems") refl refl) (w (codes "items") refl refl)
                  (w (codes "additionalItems") refl refl) (w (codes "contains") refl refl) is.own.2,
            );
          }
            where
              w : (k : Text) → bytes_eq k (codes "allOf") ≡ false → bytes_eq k (codes "$ref") ≡ false → Alike k (moved_members r ns) ns
              w k out ref_out = alike-moved r k ns out ref_out

          alone : (r : Data) → IsTextWith N (Some r) → Q (member (codes "$ref") r no_members)
          alone r text = record { reference = text; once = refl; own = ((refl, inl refl, no_newer), (refl, tt, tt, refl, refl)) }

          each : (b : Bool) (o : Option Data) → get_member (codes "$ref") ns ≡ o
              → (asked Q (if b then object ns else reference_moved o (object (without (codes "$ref") ns)))).as_schema
          each true o here = (same, a)
          each false None here = (gone, asked-without Q (codes "$ref") ns a)
          each false (Some r) here = (moved r, asked-moved Q r (alone r (subst (IsTextWith N) here is.reference), (tt, tt)) ns a)

  -- ---- an example

  pub keep-example : ((s : Data) → IsSchema s → IsSchema (with_single_example s))
      → Preserves (change_rules with_single_example) (Stands N AfterSiblings) (Stands N AfterSiblings)
  unfolding asked
  keep-example schema =
      by_change with_single_example N AfterSiblings AfterSiblings schema (λ b. tt)
      (λ ms is. siblings-walked (change_rules with_single_example) (goes-down-here with_single_example)
      (λ r s is. schema s is) N tt ms is) done
    where
      done : (ns : Members) → Stands N AfterSiblings ns → asked_of_keywords (Stands N AfterSiblings) ns
          → (asked (Stands N AfterSiblings) (with_single_example (object ns))).as_schema
      done ns is a = go (get_member (codes "examples") ns)
        where
          Q : Members → Type 0
          Q = Stands N AfterSiblings

          old : Members
          old = without (codes "examples") ns

          kept : (ls ms : Members)
              → ((k : Text) → bytes_eq k (codes "examples") ≡ false → bytes_eq k (codes "example") ≡ false → Alike k ls ms) → Q ms → Q ls
          kept ls ms w is =
              stands-alike N AfterSiblings AfterSiblings ls ms (w (codes "$ref") refl refl) (
                const-alike ls ms (w (codes "const") refl refl) (w (codes "enum") refl refl)
                    (none-alike of_draft06 ls ms
                    (λ k there. (w k (unlisted k (codes "examples") of_draft06 there refl)
                    (unlisted k (codes "example") of_draft06 there refl)).first) is.own.0.2) is.own.0,
                items-alike ls ms (w (codes "prefixItems") refl refl) (w (codes "items") refl refl)
                    (w (codes "additionalItems") refl refl) (w (codes "contains") refl refl) is.own.1,
              ) is

          gone : (asked Q (object (without (codes "examples") ns))).as_schema
          gone = (
            kept (without (codes "examples") ns) ns
                (λ k out other. alike-without k (codes "examples") ns out) is,
            asked-without Q (codes "examples") ns a,
          )

          go : (o : Option Data) → (asked Q (first_as_example o (object (without (codes "examples") ns)))).as_schema
          go None = gone
          go (Some null) = gone
          go (Some (boolean b)) = gone
          go (Some (number n)) = gone
          go (Some (string t)) = gone
          go (Some (array no_items)) = gone
          go (Some (array (item d ds))) = (
            kept (put (codes "example") d (without (codes "examples") ns)) (without (codes "examples") ns)
                (λ k out other. alike-put k (codes "example") d (without (codes "examples") ns) other) gone.0,
            asked-put Q (codes "example") d (without (codes "examples") ns) tt gone.1,
          )
          go (Some (object es)) = gone

  -- ---- `const`

  pub keep-const : ((s : Data) → IsSchema s → IsSchema (const_as_enum s))
      → Preserves (change_rules const_as_enum) (Stands N AfterSiblings) (Stands N HasPlainItems)
  unfolding asked
  keep-const schema =
      by_change const_as_enum N AfterSiblings HasPlainItems schema (λ b. tt)
      (λ ms is. siblings-walked (change_rules const_as_enum) (goes-down-here const_as_enum) (λ r s is. schema s is) N tt ms is) done
    where
      done : (ns : Members) → Stands N AfterSiblings ns → asked_of_keywords (Stands N HasPlainItems) ns
          → (asked (Stands N HasPlainItems) (const_as_enum (object ns))).as_schema
      done ns is a = go (get_member (codes "const") ns)
        where
          Q : Members → Type 0
          Q = Stands N HasPlainItems

          kept : (P : Members → Type 0) (ls ms : Members)
              → ((k : Text) → bytes_eq k (codes "const") ≡ false → bytes_eq k (codes "enum") ≡ false → Alike k ls ms)
              → HasPlainItems ms → Stands N P ms → Q ls
          kept P ls ms w items is =
              stands-alike N P HasPlainItems ls ms (w (codes "$ref") refl refl)
              (items-alike ls ms (w (codes "prefixItems") refl refl) (w (codes "items") refl refl)
              (w (codes "additionalItems") refl refl) (w (codes "contains") refl refl) items) is

          gone : (asked Q (object (without (codes "const") ns))).as_schema
          gone = (
            kept AfterSiblings (without (codes "const") ns) ns (λ k out other. alike-without k (codes "const") ns out) is.own.1 is,
            asked-without Q (codes "const") ns a,
          )

          go : (o : Option Data) → (asked Q (value_as_enum o (object (without (codes "const") ns)))).as_schema
          go None = gone
          go (Some c) = (
            kept HasPlainItems (put (codes "enum") (array (item c no_items)) (without (codes "const") ns)) (without (codes "const") ns)
                (λ k out other. alike-put k (codes "enum") (array (item c no_items)) (without (codes "const") ns) other) gone.0.own gone.0,
            asked-put Q (codes "enum") (array (item c no_items)) (without (codes "const") ns) tt gone.1,
          )

  -- ---- positions

  pub keep-positions : ((s : Data) → IsSchema s → IsSchema (prefix_as_items s))
      → ((ms : Members) → HasPlainItems ms → HasPlainItems (in_keywords (change_rules prefix_as_items) tt ms))
      → Preserves (change_rules prefix_as_items) (Stands N HasPlainItems) (Stands N Anything)
  unfolding asked
  keep-positions schema walked =
      by_change prefix_as_items N HasPlainItems Anything schema (λ b. tt) walked done
    where
      done : (ns : Members) → Stands N HasPlainItems ns → asked_of_keywords (Stands N Anything) ns
          → (asked (Stands N Anything) (prefix_as_items (object ns))).as_schema
      done ns is a = go (get_member (codes "prefixItems") ns) refl is.own.1
        where
          Q : Members → Type 0
          Q = Stands N Anything

          kept : (P : Members → Type 0) (ls ms : Members) → Alike (codes "$ref") ls ms → Stands N P ms → Q ls
          kept P ls ms v is = stands-alike N P Anything ls ms v tt is

          old : Members
          old = without (codes "prefixItems") ns

          gone : (asked Q (object (without (codes "prefixItems") ns))).as_schema
          gone = (
            kept HasPlainItems (without (codes "prefixItems") ns) ns (alike-without (codes "$ref") (codes "prefixItems") ns refl) is,
            asked-without Q (codes "prefixItems") ns a,
          )

          more : (ms : Members) (k : Text) (d : Data) → bytes_eq (codes "$ref") k ≡ false → Q ms → Q (put k d ms)
          more ms k d ref is = kept Anything (put k d ms) ms (alike-put (codes "$ref") k d ms ref) is

          list : (p : Data) → IsSchemaList (Some p) → (asked Q p).as_list → demanded SchemaOrList (asked Q p)
          list (array ds) is a = (tt, a)
          list _ is a = absurd is

          with : (p : Data) → demanded SchemaOrList (asked Q p)
              → asked_of_keywords Q (put (codes "items") p (without (codes "prefixItems") ns))
          with p here = asked-put Q (codes "items") p (without (codes "prefixItems") ns) here gone.1

          each : (p : Data) → demanded SchemaOrList (asked Q p) → (o : Option Data)
              → get_member (codes "items") (without (codes "prefixItems") ns) ≡ o
              → (asked Q (old_items_moved o (object (put (codes "items") p (without (codes "prefixItems") ns))))).as_schema
          each p here None at = (more (without (codes "prefixItems") ns) (codes "items") p refl gone.0, with p here)
          each p here (Some i) at = (
            more (put (codes "items") p (without (codes "prefixItems") ns)) (codes "additionalItems") i refl
                (more (without (codes "prefixItems") ns) (codes "items") p refl gone.0),
            asked-put Q (codes "additionalItems") i (put (codes "items") p (without (codes "prefixItems") ns))
                (asked-get Q (codes "items") (without (codes "prefixItems") ns) i at gone.1).0 (with p here),
          )

          go : (o : Option Data) → get_member (codes "prefixItems") ns ≡ o → IsSchemaList o
              → (asked Q (prefix_moved o (object (without (codes "prefixItems") ns)))).as_schema
          go None at plain = gone
          go (Some p) at plain = each p (list p plain (asked-get Q (codes "prefixItems") ns p at a))
              (get_member (codes "items") (without (codes "prefixItems") ns)) refl
