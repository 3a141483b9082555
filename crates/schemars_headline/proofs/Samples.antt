-- Root documents of examples accept them in Draft 7 and 2019-09 too, after the transforms of these drafts.
use Rattle.std.proofs.Common.{◌≡◌, ℕ, List, [], ◌∷◌, inl, inr, Option, Some, None, true, codes, refl, sym, ap, ◌∙◌, subst}
use Rattle.schemars_headline.proofs.Words.{Data, null, boolean, number, string, array, object, no_items, item, Members, no_members, put, get_member, items_of, Text, is_listed, members_in, Dialect, Patterns, draft2020_12, draft2019_09, draft07, accepts, follow, differ, IsSilent, without_siblings, remove_ref_siblings, prefix_as_items, replace_prefix_items, unevaluated_as_additional, replace_unevaluated_properties, with_definitions, IsDraftPath, Everywhere, asked_of_members, IsOnce, AreSchemas, HasPlainItems, IsTextWith, Stands, IsForOpenApi, for_draft07, for_draft2019_09, change_rules, weaker, text-alone, Draft2020_12, Draft2019_09, Draft07, keyword_names, Yes, context, Example, truth, whole, decimal, character, text, bytes, no_value, some_value, unit_struct, newtype_struct, newtype_variant, seq, tuple, tuple_variant, collected_map, struct_variant, Examples, no_examples, example, Entries, no_entries, entry, sample_json, json_array, sample_schema, item_schemas, entry_schemas, value_schemas, choice_among, one_beside, shared_by, tuple_schema, struct_schema, map_schema, titled_schema, with_name, with_example, sample_root, AcceptsExample, one_beside-holds, shared_by-holds, root_free, Rules, rewritten, HasPlainUnevaluated, NamedBy, HasPlainReference, HasNoUnevaluated, alone_by, without_unevaluated, AfterNullable, AfterSiblings, Rewrites, schema-moved, none-plain, const-plain, after, keep-unevaluated, keep-siblings, text-named, unevaluated-moves, siblings-moves, prefix-moves, Draft, dialect_of, made_for, AcceptsExampleUnder, DraftSamples, asked}
use Rattle.schemars_types.specs.declared.contract.Contract.TheVariants.{Serialize}
use Rattle.schemars_sample.specs.Example.{unit_variant, struct}
use Rattle.schemars_headline.proofs.Keys.{IsDefinitionsKey}
use Rattle.schemars_headline.proofs.Placed.{StandsAt, IsPlaced, placed_in, draft_key}
use Rattle.schemars_headline.proofs.Changes.{Demand, without_rest, Class, IsDraft2019_09, for_openapi, for_items, AreGood, are-put, IsGood, good, good_truth, good-members, good-allow_null}
use Rattle.schemars_headline.proofs.Documents.{own-items, type-good, are-typed, char-good, bytes-good, seq-good, AllGood, asked-items, any_of-good, asked-named}
use Rattle.schemars_headline.proofs.RootClass.{are-with_meta_schema, same_key, with-definitions}
use Rattle.schemars_headline.proofs.Beside.{DifferIn, differ-same, differ-placed, differ-then, judge-differ, unevaluated-differ, siblings-differ, prefix-differ}

-- ---- the schema of an example

module _ (R : Demand) where
  schemas-of : (ts : List Data) → AllGood R ts → AreSchemas (items_of ts)
  schemas-of [] is = tt
  schemas-of (t ∷ ts) is = (is.0.schema, schemas-of ts is.1)

  are-positions : (ts : List Data) → AllGood R ts
      → AreGood R (put (codes "prefixItems") (json_array ts) (put (codes "type") (string (codes "array")) no_members))
  unfolding asked
  are-positions ts is = record {
    own = own-items R _ tt refl refl refl refl refl refl (refl, schemas-of ts is, tt, refl, refl) refl;
    inside = (asked-items R ts is, (tt, tt));
  }

  tuple_schema-good : (ts : List Data) → AllGood R ts → IsGood R (tuple_schema ts)
  tuple_schema-good ts is =
      good R _ (are-put R (codes "minItems") _ _ refl tt (are-put R (codes "maxItems") _ _ refl tt (are-positions ts is)))

  struct_schema-good : (ms : Members) → asked_of_members (Class R) ms → IsGood R (struct_schema ms)
  unfolding asked
  struct_schema-good ms is =
      good R _ (are-put R (codes "properties") (object ms) _ refl is (are-typed R (codes "object")))

  map_schema-good : (t : Data) → IsGood R t → IsGood R (map_schema t)
  map_schema-good t is =
      good R _ (are-put R (codes "additionalProperties") t _ refl is.everywhere
      (are-typed R (codes "object")))

  choice-good : (ts : List Data) → AllGood R ts → IsGood R (choice_among ts)
  choice-good [] is = good_truth R true
  choice-good (t ∷ []) is = is.0
  choice-good (t ∷ u ∷ ts) is = any_of-good R (t ∷ u ∷ ts) is

  no_named : asked_of_members (Class R) no_members
  unfolding asked
  no_named = tt

  mutual
    schema-good : (x : Example) → IsGood R (sample_schema x)
    schema-good (truth b) = type-good R (codes "boolean")
    schema-good (whole z) = type-good R (codes "integer")
    schema-good (decimal x) = type-good R (codes "number")
    schema-good (character c) = char-good R
    schema-good (text s) = type-good R (codes "string")
    schema-good (bytes bs) = bytes-good R Serialize
    schema-good no_value = good_truth R true
    schema-good (some_value x) = good-allow_null R (sample_schema x) (schema-good x)
    schema-good unit_struct = type-good R (codes "null")
    schema-good (unit_variant variant) = good_truth R true
    schema-good (newtype_struct name x) = schema-good x
    schema-good (newtype_variant variant x) = good_truth R true
    schema-good (seq xs) =
        seq-good R (one_beside [] (item_schemas xs))
        (one_beside-holds (IsGood R) (good_truth R true) choice-good (item_schemas xs) (items-good xs))
    schema-good (tuple name xs) = tuple_schema-good (item_schemas xs) (items-good xs)
    schema-good (tuple_variant variant xs) = good_truth R true
    schema-good (struct name xs) = struct_schema-good (entry_schemas xs no_members) (entries-good xs no_members no_named)
    schema-good (collected_map xs) =
        map_schema-good (shared_by (value_schemas xs))
        (shared_by-holds (IsGood R) (good_truth R true) (value_schemas xs) (values-good xs))
    schema-good (struct_variant variant xs) = good_truth R true

    items-good : (xs : Examples) → AllGood R (item_schemas xs)
    items-good no_examples = tt
    items-good (example x xs) = (schema-good x, items-good xs)

    entries-good : (xs : Entries) (ms : Members) → asked_of_members (Class R) ms
        → asked_of_members (Class R) (entry_schemas xs ms)
    entries-good no_entries ms is = is
    entries-good (entry k x xs) ms is =
        entries-good xs (put k (sample_schema x) ms) (asked-named R k (sample_schema x) ms (schema-good x).everywhere is)

    values-good : (xs : Entries) → AllGood R (value_schemas xs)
    values-good no_entries = tt
    values-good (entry k x xs) = (schema-good x, values-good xs)

  -- ---- as a root document

  named-good : (name : Text) (s : Data) → IsGood R s → IsGood R (with_name name s)
  named-good [] s is = is
  named-good (b ∷ bs) s is = good R _ (are-put R (codes "title") (string (b ∷ bs)) (members_in s) refl tt (good-members R s is))

  titled-good : (x : Example) → IsGood R (titled_schema x)
  titled-good (newtype_struct name x) = named-good name (titled_schema x) (titled-good x)
  titled-good (tuple name xs) = named-good name (sample_schema (tuple name xs)) (schema-good (tuple name xs))
  titled-good (struct name xs) = named-good name (sample_schema (struct name xs)) (schema-good (struct name xs))
  titled-good x = schema-good x

  are-with_example : (o : Option Data) (ms : Members) → AreGood R ms → AreGood R (with_example o ms)
  are-with_example None ms is = is
  are-with_example (Some d) ms is = are-put R (codes "examples") (array (item d no_items)) ms refl tt is

  root-good : (meta_schema : Option Text) (x : Example) → AreGood R (members_in (sample_root meta_schema x))
  root-good meta_schema x =
      let own = members_in (titled_schema x) in
      are-with_meta_schema R meta_schema (with_example (sample_json x) own)
      (are-with_example (sample_json x) own (good-members R (titled_schema x) (titled-good x)))

-- ---- with definitions

-- it has no definitions before they are placed
pub definitions_free : (meta_schema : Option Text) (x : Example) (key : Text) → IsDefinitionsKey key
    → get_member key (members_in (sample_root meta_schema x)) ≡ None
definitions_free meta_schema x key (inl is) =
    ap (λ k. get_member k (members_in (sample_root meta_schema x))) is ∙ (root_free meta_schema x).0
definitions_free meta_schema x key (inr is) =
    ap (λ k. get_member k (members_in (sample_root meta_schema x))) is ∙ (root_free meta_schema x).1

-- ---- the document without what its definitions hold

abbrev Never : Text → Type 0
Never t = ⊥

-- the class of those that refer to nothing
abbrev unreferred : Demand
unreferred = without_rest Never

-- an object of the class that differs from the document in what its definitions hold alone
abbrev IsBeside : Text → Data → Members → Type 0
IsBeside key document ns = DifferIn key document (object ns) × AreGood unreferred ns

module _ (meta_schema : Option Text) (x : Example) (path key : Text) (at : StandsAt path key) (definitions : Members) where
  abbrev own : Members
  own = members_in (sample_root meta_schema x)

  beside : (document : Data) → IsPlaced path definitions (object own) document → (ns : Members) × IsBeside key document ns
  beside document (inl placed) =
      (own, ((own, own, placed.1, refl, differ-same key own), root-good unreferred meta_schema x))
  beside document (inr (other, at_other, placed)) =
      let same : document ≡ object (put key (object definitions) own) =
      placed ∙ ap (λ k. object (put k (object definitions) own)) (same_key path other key at_other at) in (
        put key (object no_members) own,
        (
          subst (λ d. DifferIn key d (object (put key (object no_members) own))) (sym same)
              (differ-placed key (object definitions) (object no_members) own),
          with-definitions unreferred path key at no_members own tt (root-good unreferred meta_schema x),
        ),
      )

pub stands-silent : (path key : Text) → StandsAt path key → IsSilent key
stands-silent path key (inl at) = ap (λ k. is_listed k keyword_names) at.1
stands-silent path key (inr at) = ap (λ k. is_listed k keyword_names) at.1

-- ---- what the transforms make of it

-- where nothing is referred to, a transform moves acceptance in whatever document
alone-moved : {R : Type 0} (ρ : Rules R) (r : R) (old new : Dialect) (Q : Members → Type 0) → Rewrites ρ old new Q → (document : Data)
    (patterns : Patterns) (followed : ℕ) (part v : Data) → Everywhere (NamedBy old Never Q) part
    → accepts new document patterns followed (rewritten ρ r part) v ≡ accepts old document patterns followed part v
alone-moved ρ r old new Q moves document patterns followed part v is =
    schema-moved ρ Never old new Q moves document document (λ t never. absurd never) patterns followed r part v is

named : (d : Dialect) (P Q : Members → Type 0) → ((ms : Members) → Stands Never P ms → HasPlainUnevaluated d ms × Q ms) → (s : Data)
    → Everywhere (Stands Never P) s → Everywhere (NamedBy d Never Q) s
named d P Q own s is =
    weaker (Stands Never P) (NamedBy d Never Q)
    (λ ms h. (text-named Never (get_member (codes "$ref") ms) h.reference, (own ms h).0, (own ms h).1)) s is

own_of : (C : Members → Type 0) (s : Data) (ms : Members) → s ≡ object ms → Everywhere C s → C ms
unfolding asked
own_of C s ms same is = (subst (Everywhere C) same is).0

no_reference : (o : Option Data) → IsTextWith Never o → o ≡ None
no_reference None is = refl
no_reference (Some null) is = absurd is
no_reference (Some (boolean b)) is = absurd is
no_reference (Some (number n)) is = absurd is
no_reference (Some (string t)) is = absurd is
no_reference (Some (array ds)) is = absurd is
no_reference (Some (object ms)) is = absurd is

-- the object before the transforms of Draft 7, and after the first of them and the second
module _ (ns : Members) (is : Everywhere (Stands Never IsForOpenApi) (object ns)) where
  abbrev first : Data
  first = replace_unevaluated_properties (object ns)

  abbrev second : Data
  second = remove_ref_siblings first

  is-first : Everywhere (Stands Never IsForOpenApi) first
  is-first =
      after (change_rules unevaluated_as_additional) (Stands Never IsForOpenApi) (Stands Never IsForOpenApi) (keep-unevaluated Never) tt
      (object ns) is

  is-second : Everywhere (Stands Never AfterSiblings) second
  is-second =
      after (change_rules without_siblings) (Stands Never AfterNullable) (Stands Never AfterSiblings) (keep-siblings Never) tt first
      (weaker (Stands Never IsForOpenApi) (Stands Never AfterNullable) (λ ms h. record {
        reference = h.reference;
        once = h.once;
        own = (h.own.all_of, h.own.const, h.own.items);
      }) first is-first)

  plain_reference : (ms : Members) → IsForOpenApi ms → IsOnce (codes "$ref") ms → IsTextWith Never (get_member (codes "$ref") ms)
      → HasPlainReference ms
  plain_reference ms own once reference = (once, text-alone Never (get_member (codes "$ref") ms) reference, own.all_of)

  -- in whatever document, Draft 7 reads what the transforms made as 2020-12 read it before
  draft07-alone : (document : Data) (patterns : Patterns) (followed : ℕ) (v : Data)
      → accepts draft07 document patterns followed (for_draft07 (object ns)) v
      ≡ accepts draft2020_12 document patterns followed (object ns) v
  draft07-alone document patterns followed v =
      alone-moved (change_rules prefix_as_items) tt (alone_by gone) draft07 HasPlainItems
      (prefix-moves (codes "$defs") refl (alone_by gone)).rewrites document patterns followed second v
      (named (alone_by gone) AfterSiblings HasPlainItems (λ ms h. (const-plain (alone_by gone) ms refl h.own.0, h.own.1)) second is-second)
      ∙ (alone-moved (change_rules without_siblings) tt gone (alone_by gone) HasPlainReference
      (siblings-moves (codes "$defs") refl gone).rewrites document patterns followed first v
      (named gone IsForOpenApi HasPlainReference
      (λ ms h. (const-plain gone ms refl h.own.const, plain_reference ms h.own h.once h.reference)) first is-first)
      ∙ alone-moved (change_rules unevaluated_as_additional) tt draft2020_12 gone HasNoUnevaluated
      (unevaluated-moves (codes "$defs") refl draft2020_12 (differ (codes "$defs") (codes "properties") refl)).rewrites document patterns
      followed (object ns) v
      (named draft2020_12 IsForOpenApi HasNoUnevaluated
      (λ ms h. (none-plain draft2020_12 ms h.own.unevaluated, h.own.unevaluated)) (object ns) is))
    where
      gone : Dialect
      gone = without_unevaluated draft2020_12

  module _ (key : Text) (silent : IsSilent key) (document : Data) (differs : DifferIn key document (object ns)) where
    draft07-differs : DifferIn key (for_draft07 document) (for_draft07 (object ns))
    draft07-differs =
        differ-then key replace_prefix_items (λ ms. Unit {0}) (λ m n p h. prefix-differ key silent m n h)
        (remove_ref_siblings (replace_unevaluated_properties document)) second two (λ ms same. tt)
      where
        one : DifferIn key (replace_unevaluated_properties document) first
        one =
            differ-then key replace_unevaluated_properties (λ ms. get_member (codes "unevaluatedProperties") ms ≡ None)
            (λ m n p h. unevaluated-differ key silent m n p h) document (object ns) differs
            (λ ms same. (own_of (Stands Never IsForOpenApi) (object ns) ms same is).own.unevaluated.1)

        two : DifferIn key (remove_ref_siblings (replace_unevaluated_properties document)) second
        two =
            differ-then key remove_ref_siblings (λ ms. get_member (codes "$ref") ms ≡ None)
            (λ m n p h. siblings-differ key silent m n p h) (replace_unevaluated_properties document) first one
            (λ ms same. no_reference (get_member (codes "$ref") ms) (own_of (Stands Never IsForOpenApi) first ms same is-first).reference)

-- ---- the example is accepted

module _ (x : Example) (document : Data) (key : Text) (silent : IsSilent key) (ns : Members) (beside_it : IsBeside key document ns)
    (fits : AcceptsExample x document) where
  class : Everywhere (Class unreferred) (object ns)
  class = (good unreferred ns beside_it.1).everywhere

  -- under 2020-12, in whatever document
  before : (other : Data) (patterns : Patterns) (followed : ℕ) (json : Data) → sample_json x ≡ Some json
      → accepts draft2020_12 other patterns followed (object ns) json ≡ Yes
  before other patterns followed json is =
      sym (ap (λ j. j.fits json) (judge-differ key silent (context draft2020_12 other patterns followed) document (object ns) beside_it.0))
      ∙ fits patterns (follow draft2020_12 other patterns followed) json is

  after07 : AcceptsExampleUnder draft07 x (for_draft07 document)
  after07 patterns followed json is =
      let all = for_openapi Never (object ns) class in
      ap (λ j. j.fits json) (judge-differ key silent (context draft07 (for_draft07 document) patterns followed) (for_draft07 document)
      (for_draft07 (object ns)) (draft07-differs ns all key silent document beside_it.0))
      ∙ (draft07-alone ns all (for_draft07 document) patterns followed json ∙ before (for_draft07 document) patterns followed json is)

  after2019_09 : AcceptsExampleUnder draft2019_09 x (for_draft2019_09 document)
  after2019_09 patterns followed json is =
      let made = for_draft2019_09 document in
      ap (λ j. j.fits json) (judge-differ key silent (context draft2019_09 made patterns followed) made (for_draft2019_09 (object ns))
      (differ-then key replace_prefix_items (λ ms. Unit {0}) (λ m n p h. prefix-differ key silent m n h) document (object ns) beside_it.0
      (λ ms same. tt)))
      ∙ (alone-moved (change_rules prefix_as_items) tt draft2020_12 draft2019_09 HasPlainItems
      (prefix-moves (codes "$defs") refl draft2020_12).rewrites made patterns followed (object ns) json
      (named draft2020_12 IsDraft2019_09 HasPlainItems (λ ms h. h.own) (object ns) (for_items unreferred (object ns) class))
      ∙ before made patterns followed json is)

-- what is made of an example accepts it in each draft
pub draft_samples : (path : Text) (meta_schema : Option Text) (definitions : Members) (x : Example) (d : Data)
    → with_definitions path definitions (sample_root meta_schema x) ≡ Some d
    → (IsDraftPath path → AcceptsExample x d) → DraftSamples path x d
draft_samples path meta_schema definitions x d made fits draft is_draft = by draft
  where
    place : (key : Text) × StandsAt path key
    place = draft_key path is_draft

    silent : IsSilent place.0
    silent = stands-silent path place.0 place.1

    own : Members
    own = members_in (sample_root meta_schema x)

    there : (ns : Members) × IsBeside place.0 d ns
    there =
        beside meta_schema x path place.0 place.1 definitions d
        (placed_in path definitions own d is_draft (definitions_free meta_schema x) made)

    by : (draft : Draft) → AcceptsExampleUnder (dialect_of draft) x (made_for draft d)
    by Draft07 = after07 x d place.0 silent there.0 there.1 (fits is_draft)
    by Draft2019_09 = after2019_09 x d place.0 silent there.0 there.1 (fits is_draft)
    by Draft2020_12 = λ patterns followed json is. fits is_draft patterns (follow draft2020_12 d patterns followed) json is
