-- Objects in place of truth values say the same.
use Rattle.std.proofs.Common.{◌≡◌, ◌⊎◌, ℕ, inl, inr, Some, None, Bool, true, false, [], ◌∷◌, codes, refl, ap, ◌∙◌}
use Rattle.schemars_laws.proofs.Words.{and-false, bytes_eq, if◌then◌else◌, ◌&&◌, not, is_some, Data, boolean, object, Members, no_members, member, as_bool, Text, members_in, NoSchemas, place_under, Yes, opposite, Dialect, Context, Readings, Raw, Judge, Part, position, judged_by_items, judge, reading_at, keywords, reference_alone, truth_value, bool_rules, in_keywords, both-yes, items_none, const_none, unevaluated_none, read_data, all_keywords}
use Rattle.schemars_schema.specs.Judges.{key as member_key}
use Rattle.schemars_transform.specs.declared.built_in.bool_schemas.ReplaceBoolSchemas.{ReplaceBoolSchemas}
use Rattle.schemars_laws.proofs.Seen.{judge_ext}
use Rattle.schemars_laws.proofs.Kept.{IsTruth}
use Rattle.schemars_laws.proofs.Moved.{Moves}
use Rattle.schemars_laws.proofs.Examples.{same-dialect}

-- an object with a schema under `not` alone
abbrev not_read : Judge → Readings
not_read j = reading_at ((codes "not", record { schema = Some j; listed = None; named = None; among = [] }) ∷ [])

abbrev nothing_raw : Raw
nothing_raw k = None

abbrev nothing_read : Readings
nothing_read k = None

-- without keywords for items none is judged
pub places_none : (reads : Bool) (n : ℕ) → judged_by_items reads None None None n ≡ false
places_none true n = refl
places_none false n = refl

module _ (c : Context) where
  empty-fits : (v : Data) → (all_keywords c nothing_raw nothing_read).fits v ≡ Yes
  unfolding all_keywords
  empty-fits v =
      rw (
        items_none c.dialect.reads_prefix_items v,
        const_none c.dialect.reads_const v,
        unevaluated_none c.dialect.reads_unevaluated _ v,
      ) refl

  empty-judges : (v : Data) (p : Part) → (all_keywords c nothing_raw nothing_read).judges v p ≡ false
  unfolding all_keywords
  empty-judges v (member_key k) = rw (and-false c.dialect.reads_unevaluated) refl
  empty-judges v (position n) =
      rw (places_none c.dialect.reads_prefix_items n, and-false c.dialect.reads_unevaluated) refl

  not-fits : (j : Judge) (v : Data) → (all_keywords c nothing_raw (not_read j)).fits v ≡ opposite (j.fits v)
  unfolding all_keywords
  not-fits j v =
      rw (items_none c.dialect.reads_prefix_items v, const_none c.dialect.reads_const v, unevaluated_none c.dialect.reads_unevaluated _ v)
      (both-yes (opposite (j.fits v)))

  not-judges : (j : Judge) (v : Data) (p : Part) → (all_keywords c nothing_raw (not_read j)).judges v p ≡ false
  unfolding all_keywords
  not-judges j v (member_key k) = rw (and-false c.dialect.reads_unevaluated) refl
  not-judges j v (position n) =
      rw (places_none c.dialect.reads_prefix_items n, and-false c.dialect.reads_unevaluated) refl

  no_reference : (read : Readings) → keywords c nothing_raw read ≡ all_keywords c nothing_raw read
  no_reference read =
      ap (λ b. if b then reference_alone c nothing_raw else all_keywords c nothing_raw read) (and-false (not c.dialect.judges_siblings))

  judge-true : judge c (object no_members) ≡ truth_value true
  unfolding read_data
  judge-true = no_reference nothing_read ∙ judge_ext _ _ empty-fits empty-judges

  as_not : judge c (object (member (codes "not") (object no_members) no_members))
      ≡ keywords c nothing_raw (not_read (judge c (object no_members)))
  unfolding read_data all_keywords
  as_not = refl

  judge-false : judge c (object (member (codes "not") (object no_members) no_members)) ≡ truth_value false
  judge-false =
      as_not
      ∙ (no_reference (not_read (judge c (object no_members)))
      ∙ judge_ext (all_keywords c nothing_raw (not_read (judge c (object no_members)))) (truth_value false)
      (λ v. not-fits (judge c (object no_members)) v ∙ ap (λ j. opposite (j.fits v)) judge-true)
      (not-judges (judge c (object no_members))))

  judge-truth : (b : Bool) → judge c (object (members_in (boolean b))) ≡ truth_value b
  judge-truth true = judge-true
  judge-truth false = judge-false

place-bool : (r : ReplaceBoolSchemas) (k : Text) (d : Data)
    → (bool_rules.place r k d ≡ place_under k) ⊎ ((bool_rules.place r k d ≡ NoSchemas) × IsTruth d)
place-bool r k d = go r.skip_additional_properties (bytes_eq k (codes "additionalProperties")) d
  where
    go : (s b : Bool) (d : Data) → ((if s && (b && is_some (as_bool d)) then NoSchemas else place_under k) ≡ place_under k)
        ⊎ (((if s && (b && is_some (as_bool d)) then NoSchemas else place_under k) ≡ NoSchemas) × IsTruth d)
    go true true (boolean x) = inr (refl, tt)
    go true false d = inl refl
    go false b d = inl refl
    go true true _ = inl refl

pub bool_schemas : (key : Text) (dialect : Dialect) (Q : Members → Type 0) → Moves bool_rules key dialect dialect Q
bool_schemas key dialect Q = record {
  rewrites = record {
    place = place-bool;
    schema = λ r s is. tt;
    of_truth = λ c r b is. judge-truth c b;
    of_object = λ c r ms is q. same-dialect c dialect (in_keywords bool_rules r ms) is;
  };
  definitions = λ r ms. (ms, refl, refl);
}
