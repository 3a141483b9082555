-- What built-in transforms make of a document is what they make of its definitions, each by itself, and of what is left.
use Rattle.std.proofs.Common.{◌≡◌, Bool, true, false, List, [], ◌∷◌, Some, None, option_map, codes, refl, sym, ap, ◌∙◌, subst}
use Rattle.schemars_transform.proofs.Words.{and_parts, ◌&&◌, is_some, if◌then◌else◌, Data, null, boolean, number, string, array, object, Members, no_members, member, get_member, as_bool, Text, IsSchema, members_in, replaced, NoSchemas, SchemasByName, place_under, Rules, rewritten, everywhere, all_changed, form_at, forms, in_names, in_keywords, bool_rules, replace_bool_schemas, without_siblings, with_single_example, const_as_enum, prefix_as_items, with_nullable, unevaluated_as_additional, function_of, made_by, value_made_by, each_made_by, is_local, are_local}
use Rattle.schemars_transform.specs.declared.built_in.bool_schemas.ReplaceBoolSchemas as bools
use Rattle.schemars_transform.specs.declared.gen_transform.GenTransform.{GenTransform}
use Rattle.schemars_transform.specs.declared.gen_transform.GenTransform.TheVariants.{ReplaceBoolSchemas, RemoveRefSiblings, SetSingleExample, ReplaceConstValue, ReplacePrefixItems, AddNullable, ReplaceUnevaluatedProperties, RestrictFormats, Own}
use Rattle.schemars_transform.proofs.Replaced.{turned, keywords-replaced, keyword_form, keywords-get, replaced-twice, replaced-found}
use Rattle.schemars_transform.proofs.Turns.{IsApart, Turns, const_turns, example_turns, prefix_turns, reference_turns, null_turns, unevaluated_turns}

-- ---- one transform

-- the schemas of a map, each by itself
abbrev at_schema : (Data → Data) → Data → Data
at_schema T null = null
at_schema T (boolean b) = T (boolean b)
at_schema T (number n) = number n
at_schema T (string s) = string s
at_schema T (array ds) = array ds
at_schema T (object ms) = T (object ms)

abbrev each : (Data → Data) → Members → Members
each T no_members = no_members
each T (member k d ms) = member k (at_schema T d) (each T ms)

-- what a transform makes of an object with these definitions at q
record Parts (q : Text) (T : Data → Data) (ms : Members) : Type 0 where
  members : Members
  here : T (object ms) ≡ object members
  there : (defs : Members) → T (object (replaced q (object defs) ms)) ≡ object (replaced q (object (each T defs)) members)
  kept : (defs : Members) → get_member q ms ≡ Some (object defs) → get_member q members ≡ Some (object (each T defs))
  absent : get_member q ms ≡ None → get_member q members ≡ None

record IsParted (q : Text) (T : Data → Data) : Type 0 where
  parts : (ms : Members) → Parts q T ms
  truth : (b : Bool) → IsSchema (T (boolean b))

module _ (q : Text) (h : IsApart q) {R : Type 0} (ρ : Rules R) (r : R) (inside : (d : Data) → ρ.inside r d ≡ r)
    (place : (d : Data) → ρ.place r q d ≡ SchemasByName) (turn : (ms : Members) → Turns q (ρ.finish r) ms) where
  names_each : (ms : Members) → in_names ρ r ms ≡ each (rewritten ρ r) ms
  unfolding in_names forms
  names_each no_members = refl
  names_each (member k d ms) = ap (λ e. member k e (in_names ρ r ms)) (one d) ∙ ap (member k (at_schema (rewritten ρ r) d)) (names_each ms)
    where
      one : (d : Data) → (forms ρ r d).as_schema ≡ at_schema (rewritten ρ r) d
      one (boolean b) = refl
      one _ = refl

  finished : (ms : Members) → rewritten ρ r (object ms) ≡ ρ.finish r (object (in_keywords ρ r ms))
  unfolding forms
  finished ms = ap (λ x. ρ.finish x (object (in_keywords ρ x ms))) (inside (object ms))

  by_name : (defs : Members) → (forms ρ r (object defs)).by_name ≡ object (each (rewritten ρ r) defs)
  unfolding forms
  by_name defs = ap object (names_each defs)

  parts : (ms : Members) → Parts q (rewritten ρ r) ms
  parts ms =
      let c = turn (in_keywords ρ r ms) in
      record {
        members = c.members;
        here = finished ms ∙ c.here;
        there = λ defs. finished (replaced q (object defs) ms)
            ∙ (ap (λ ns. ρ.finish r (object ns)) (keywords-replaced ρ r q (object defs) ms
            ∙ ap (λ p. replaced q (form_at p (object defs) (forms ρ r (object defs))) (in_keywords ρ r ms)) (place (object defs)))
            ∙ (c.there (forms ρ r (object defs)).by_name ∙ ap (λ d. object (replaced q d c.members)) (by_name defs)));
        kept = λ defs found. c.kept ∙ (keywords-get ρ r q ms ∙ (ap (option_map (keyword_form ρ r q)) found
            ∙ ap Some (ap (λ p. form_at p (object defs) (forms ρ r (object defs))) (place (object defs)) ∙ by_name defs)));
        absent = λ none. c.kept ∙ (keywords-get ρ r q ms ∙ ap (option_map (keyword_form ρ r q)) none);
      }

module _ (q : Text) (h : IsApart q) where
  change_parted : (change : Data → Data) → ((b : Bool) → change (boolean b) ≡ boolean b) → ((ms : Members) → Turns q change ms)
      → IsParted q (all_changed change)
  unfolding forms
  change_parted change truth turn = record {
    parts = parts q h (everywhere {R = Unit {0}} (λ r s. change s)) tt (λ d. refl) (λ d. h.place) turn;
    truth = λ b. subst IsSchema (sym (truth b)) tt;
  }

  bools_parted : (t : bools.ReplaceBoolSchemas) → IsParted q (replace_bool_schemas t)
  unfolding forms
  bools_parted t = record { parts = parts q h bool_rules t (λ d. refl) place turn; truth = λ b. tt }
    where
      skips : (b : Bool) → (if b && false then NoSchemas else place_under q) ≡ SchemasByName
      skips true = h.place
      skips false = h.place

      place : (d : Data) → bool_rules.place t q d ≡ SchemasByName
      place d =
          ap (λ b. if t.skip_additional_properties && (b && is_some (as_bool d)) then NoSchemas else place_under q)
          (turned (codes "additionalProperties") q (h.other (codes "additionalProperties") refl)) ∙ skips t.skip_additional_properties

      turn : (ms : Members) → Turns q (λ s. object (members_in s)) ms
      turn ms = record { members = ms; here = refl; there = λ x. refl; kept = refl }

  -- each transform that does the same everywhere
  local_parted : {O : Type 0} (t : GenTransform O) → is_local t ≡ true → IsParted q (function_of t)
  local_parted (ReplaceBoolSchemas t) is = bools_parted t
  local_parted (RemoveRefSiblings t) is = change_parted without_siblings (λ b. refl) (reference_turns q h)
  local_parted (SetSingleExample t) is = change_parted with_single_example (λ b. refl) (example_turns q h)
  local_parted (ReplaceConstValue t) is = change_parted const_as_enum (λ b. refl) (const_turns q h)
  local_parted (ReplacePrefixItems t) is = change_parted prefix_as_items (λ b. refl) (prefix_turns q h)
  local_parted (AddNullable t) is = change_parted (with_nullable t) (λ b. refl) (null_turns q h t)
  local_parted (ReplaceUnevaluatedProperties t) is = change_parted unevaluated_as_additional (λ b. refl) (unevaluated_turns q h)
  local_parted (RestrictFormats t) is = cc
  local_parted (Own t) is = cc

-- ---- lists of transforms

schema_made : {O : Type 0} (ts : List (GenTransform O)) (d : Data) → IsSchema d → value_made_by ts d ≡ made_by ts d
schema_made ts (boolean b) is = refl
schema_made ts (object ms) is = refl
schema_made ts _ is = absurd is

each_none : (O : Type 0) (defs : Members) → each_made_by {O = O} [] defs ≡ defs
each_none O no_members = refl
each_none O (member k d ms) = ap (λ e. member k e (each_made_by {O = O} [] ms)) (one d) ∙ ap (member k d) (each_none O ms)
  where
    one : (d : Data) → value_made_by {O = O} [] d ≡ d
    one (boolean b) = refl
    one _ = refl

module _ {O : Type 0} (q : Text) where
  kept : (t : GenTransform O) → IsParted q (function_of t) → (d : Data) → IsSchema d → IsSchema (function_of t d)
  kept t p (boolean b) is = p.truth b
  kept t p (object ms) is = subst IsSchema (sym (p.parts ms).here) tt
  kept t p _ is = absurd is

  each_then : (t : GenTransform O) (ts : List (GenTransform O)) → IsParted q (function_of t) → (defs : Members)
      → each_made_by ts (each (function_of t) defs) ≡ each_made_by (t ∷ ts) defs
  each_then t ts p no_members = refl
  each_then t ts p (member k d ms) =
      ap (λ e. member k e (each_made_by ts (each (function_of t) ms))) (one d)
      ∙ ap (member k (value_made_by (t ∷ ts) d)) (each_then t ts p ms)
    where
      one : (d : Data) → value_made_by ts (at_schema (function_of t) d) ≡ value_made_by (t ∷ ts) d
      one (boolean b) = schema_made ts (function_of t (boolean b)) (kept t p (boolean b) tt)
      one (object ms) = schema_made ts (function_of t (object ms)) (kept t p (object ms) tt)
      one _ = refl

pub record Made {O : Type 0} (q : Text) (ts : List (GenTransform O)) (ms : Members) : Type 0 where
  pub members : Members
  pub here : made_by ts (object ms) ≡ object members
  pub there : (defs : Members) → made_by ts (object (replaced q (object defs) ms)) ≡ object (replaced q (object (each_made_by ts defs)) members)
  pub kept : (defs : Members) → get_member q ms ≡ Some (object defs) → get_member q members ≡ Some (object (each_made_by ts defs))
  pub absent : get_member q ms ≡ None → get_member q members ≡ None

pub made_in_parts : {O : Type 0} (q : Text) → IsApart q → (ts : List (GenTransform O)) → are_local ts ≡ true → (ms : Members) → Made q ts ms
made_in_parts {O} q h [] local ms = record {
  members = ms;
  here = refl;
  there = λ defs. ap (λ e. object (replaced q (object e) ms)) (sym (each_none O defs));
  kept = λ defs found. found ∙ ap (λ e. Some (object e)) (sym (each_none O defs));
  absent = λ none. none;
}
made_in_parts q h (t ∷ ts) local ms =
    let both = and_parts (is_local t) (are_local ts) local in
    let p = local_parted q h t both.0 in
    let a = p.parts ms in
    let c = made_in_parts q h ts both.1 a.members in
    record {
      members = c.members;
      here = ap (made_by ts) a.here ∙ c.here;
      there = λ defs. ap (made_by ts) (a.there defs) ∙ (c.there (each (function_of t) defs)
          ∙ ap (λ e. object (replaced q (object e) c.members)) (each_then q t ts p defs));
      kept = λ defs found. c.kept (each (function_of t) defs) (a.kept defs found) ∙ ap (λ e. Some (object e)) (each_then q t ts p defs);
      absent = λ none. c.absent (a.absent none);
    }

-- the definitions go where they were, each transformed by itself
pub parted : {O : Type 0} (q : Text) → IsApart q → (ts : List (GenTransform O)) → are_local ts ≡ true → (ms defs : Members)
    → get_member q ms ≡ Some (object defs)
    → made_by ts (object ms) ≡ object (replaced q (object (each_made_by ts defs))
    (members_in (made_by ts (object (replaced q (object no_members) ms)))))
parted q h ts local ms defs found =
    let c = made_in_parts q h ts local (replaced q (object no_members) ms) in
    ap (λ ns. made_by ts (object ns)) (sym (replaced-twice q (object no_members) (object defs) ms ∙ replaced-found q (object defs) ms found))
    ∙ (c.there defs ∙ ap (λ d. object (replaced q (object (each_made_by ts defs)) (members_in d))) (sym c.here))
