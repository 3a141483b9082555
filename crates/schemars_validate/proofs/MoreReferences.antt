-- A verdict that is not open stays, however many more references are followed.
use Rattle.std.proofs.Common.{◌≡◌, ◌≢◌, ℕ, zero, suc, ◌≤◌, arith, List, [], ◌∷◌, Option, Some, None, Bool, true, false, codes, refl}
use Rattle.std.specs.Prelude.{◌&&◌, not, if◌then◌else◌, bytes_eq}
use Rattle.serde_json.specs.Data.{Data, null, boolean, number, string, array, object, Items, no_items, item, Members, no_members, member}
use Rattle.serde_json.specs.Find.{get_member}
use Rattle.schemars_schema.specs.Json.{Text}
use Rattle.schemars_schema.specs.Verdict.{Verdict, Yes, No, Open, verdict, all_of, any_of, one_of}
use Rattle.schemars_schema.specs.Dialects.{Dialect, reads_dependencies}
use Rattle.schemars_schema.specs.Lookup.{resolved}
use Rattle.schemars_schema.specs.Judges.{Part, key, position, Patterns, Judge, Reading, Context, Raw, Readings}
use Rattle.schemars_schema.specs.Applicators.{items_say, contains_says, unevaluated_items_say, is_covered, property_names_say, properties_say, pattern_properties_say, additional_properties_say, unevaluated_properties_say, each_says, dependent_schemas_say, dependencies_say, not_says, condition_says, reference_says}
use Rattle.schemars_schema.specs.Assertions.{type_says, const_says, enum_says, minimum_says, maximum_says, exclusive_minimum_says, exclusive_maximum_says, multiple_of_says, min_length_says, max_length_says, pattern_says, min_items_says, max_items_says, unique_items_says, min_properties_says, max_properties_says, required_says, dependent_required_says}
use Rattle.schemars_schema.specs.Evaluated.{judged_itself, judged_beside, judges_rest}
use Rattle.schemars_schema.specs.Acceptance.{all_keywords, reference_alone, is_reference, keywords, both_some, all_named, with_schema, some_named, reading_at, no_reading, truth_value, read_data, read_items, read_members, nothing, judge, unanswered, follow, context, accepts}
use Rattle.schemars_validate.proofs.KeptVerdicts.{Kept, kept-same, AllKept, kept-all_of, kept-any_of, kept-one_of}
use Rattle.schemars_validate.proofs.FirmJudges.{Settled, kept-settled, Firm, FirmOption, FirmLists, FirmNamed, FirmMap, FirmReading, FirmMaybe}
use Rattle.schemars_validate.proofs.FirmSays.{same-covered, kept-items, kept-contains, kept-unevaluated_items, kept-names, kept-properties, kept-pattern_properties, kept-additional, kept-unevaluated_properties, kept-each, kept-not, kept-condition, kept-dependents, kept-dependencies, kept-reference}
use Rattle.schemars_validate.proofs.FirmMarks.{AllSettled, settled-all_of, settled-any_of, settled-one_of, same-list, same-condition, same-dependents, same-reference, same-has_schema, same-items, same-contains}

abbrev FirmReadings : Readings → Readings → Type 0
FirmReadings r s = (k : Text) → FirmMaybe (r k) (s k)

-- ---- how what is read is related

firm-both : (j k : Option Judge) (js ks : Option (List Judge)) → FirmOption j k → FirmLists js ks
    → FirmLists (both_some (λ s ss. s ∷ ss) j js) (both_some (λ s ss. s ∷ ss) k ks)
firm-both None None js ks h i = tt
firm-both None (Some k) js ks h i = absurd h
firm-both (Some j) None js ks h i = absurd h
firm-both (Some j) (Some k) None None h i = tt
firm-both (Some j) (Some k) None (Some ks) h i = absurd i
firm-both (Some j) (Some k) (Some js) None h i = absurd i
firm-both (Some j) (Some k) (Some js) (Some ks) h i = (h, i)

firm-both_named : (t : Text) (j k : Option Judge) (js ks : Option (List (Text × Judge))) → FirmOption j k → FirmMap js ks
    → FirmMap (both_some (λ s ss. (t, s) ∷ ss) j js) (both_some (λ s ss. (t, s) ∷ ss) k ks)
firm-both_named t None None js ks h i = tt
firm-both_named t None (Some k) js ks h i = absurd h
firm-both_named t (Some j) None js ks h i = absurd h
firm-both_named t (Some j) (Some k) None None h i = tt
firm-both_named t (Some j) (Some k) None (Some ks) h i = absurd i
firm-both_named t (Some j) (Some k) (Some js) None h i = absurd i
firm-both_named t (Some j) (Some k) (Some js) (Some ks) h i = (refl, (h, i))

abbrev FirmMembers : List (Text × Reading) → List (Text × Reading) → Type 0
FirmMembers [] [] = Unit {0}
FirmMembers [] (y ∷ ys) = ⊥
FirmMembers (x ∷ xs) [] = ⊥
FirmMembers (x ∷ xs) (y ∷ ys) = (y.0 ≡ x.0) × (FirmReading x.1 y.1 × FirmMembers xs ys)

firm-all_named : (xs ys : List (Text × Reading)) → FirmMembers xs ys → FirmMap (all_named xs) (all_named ys)
firm-all_named [] [] h = tt
firm-all_named [] (y ∷ ys) h = absurd h
firm-all_named (x ∷ xs) [] h = absurd h
firm-all_named (x ∷ xs) (y ∷ ys) h =
    rw (h.0) (firm-both_named x.0 x.1.schema y.1.schema (all_named xs) (all_named ys) h.1.0.schema (firm-all_named xs ys h.1.1))

firm-with : (t : Text) (j k : Option Judge) (js ks : List (Text × Judge)) → FirmOption j k → FirmNamed js ks
    → FirmNamed (with_schema t j js) (with_schema t k ks)
firm-with t None None js ks h i = i
firm-with t None (Some k) js ks h i = absurd h
firm-with t (Some j) None js ks h i = absurd h
firm-with t (Some j) (Some k) js ks h i = (refl, (h, i))

firm-some_named : (xs ys : List (Text × Reading)) → FirmMembers xs ys → FirmNamed (some_named xs) (some_named ys)
firm-some_named [] [] h = tt
firm-some_named [] (y ∷ ys) h = absurd h
firm-some_named (x ∷ xs) [] h = absurd h
firm-some_named (x ∷ xs) (y ∷ ys) h =
    rw (h.0) (firm-with x.0 x.1.schema y.1.schema (some_named xs) (some_named ys) h.1.0.schema (firm-some_named xs ys h.1.1))

firm-reading_at : (xs ys : List (Text × Reading)) → FirmMembers xs ys → FirmReadings (reading_at xs) (reading_at ys)
firm-reading_at [] [] h k = tt
firm-reading_at [] (y ∷ ys) h k = absurd h
firm-reading_at (x ∷ xs) [] h k = absurd h
firm-reading_at (x ∷ xs) (y ∷ ys) h k = rw (h.0) (go (bytes_eq k x.0) (firm-reading_at xs ys h.1.1 k))
  where
    go : (b : Bool) → FirmMaybe (reading_at xs k) (reading_at ys k)
        → FirmMaybe (if b then Some x.1 else reading_at xs k) (if b then Some y.1 else reading_at ys k)
    go true later = h.1.0
    go false later = later

-- ---- a schema object

-- the keywords, as a list
abbrev whole : Context → Raw → Readings → Data → List Verdict
whole c raw read v =
    reference_says c.follow (raw (codes "$ref")) v
    ∷ type_says c.dialect.reads_nullable (raw (codes "type")) (raw (codes "nullable")) v
    ∷ const_says c.dialect.reads_const (raw (codes "const")) v
    ∷ enum_says (raw (codes "enum")) v
    ∷ minimum_says (raw (codes "minimum")) v
    ∷ maximum_says (raw (codes "maximum")) v
    ∷ exclusive_minimum_says c.dialect.reads_const (raw (codes "exclusiveMinimum")) (raw (codes "minimum")) v
    ∷ exclusive_maximum_says c.dialect.reads_const (raw (codes "exclusiveMaximum")) (raw (codes "maximum")) v
    ∷ multiple_of_says (raw (codes "multipleOf")) v
    ∷ min_length_says (raw (codes "minLength")) v
    ∷ max_length_says (raw (codes "maxLength")) v
    ∷ pattern_says c.patterns (raw (codes "pattern")) v
    ∷ min_items_says (raw (codes "minItems")) v
    ∷ max_items_says (raw (codes "maxItems")) v
    ∷ unique_items_says (raw (codes "uniqueItems")) v
    ∷ items_say c.dialect.reads_prefix_items (read (codes "prefixItems")) (read (codes "items")) (read (codes "additionalItems")) v
    ∷ contains_says c.dialect.reads_const c.dialect.reads_unevaluated (read (codes "contains")) (raw (codes "minContains"))
    (raw (codes "maxContains")) v
    ∷ min_properties_says (raw (codes "minProperties")) v
    ∷ max_properties_says (raw (codes "maxProperties")) v
    ∷ required_says (raw (codes "required")) v
    ∷ dependent_required_says c.dialect.reads_unevaluated (raw (codes "dependentRequired")) v
    ∷ property_names_say c.dialect.reads_const (read (codes "propertyNames")) v
    ∷ properties_say (read (codes "properties")) v
    ∷ pattern_properties_say c.patterns (read (codes "patternProperties")) v
    ∷ additional_properties_say (is_covered c.patterns (read (codes "properties")) (read (codes "patternProperties")))
    (read (codes "additionalProperties")) v
    ∷ each_says all_of (read (codes "allOf")) v
    ∷ each_says any_of (read (codes "anyOf")) v
    ∷ each_says one_of (read (codes "oneOf")) v
    ∷ not_says (read (codes "not")) v
    ∷ condition_says c.dialect.reads_const (read (codes "if")) (read (codes "then")) (read (codes "else")) v
    ∷ dependent_schemas_say c.dialect.reads_unevaluated (read (codes "dependentSchemas")) v
    ∷ dependencies_say (reads_dependencies c.dialect) (raw (codes "dependencies")) (read (codes "dependencies")) v
    ∷ unevaluated_items_say c.dialect.reads_unevaluated (λ n. judged_beside c raw read v (position n))
    (read (codes "unevaluatedItems")) v
    ∷ unevaluated_properties_say c.dialect.reads_unevaluated (λ k. judged_beside c raw read v (key k))
    (read (codes "unevaluatedProperties")) v
    ∷ []

kept-when : (a x : Verdict) → (Settled a → Kept a x) → Kept a x
kept-when Yes x h = h tt
kept-when No x h = h tt
kept-when Open x h = tt

module _ (dialect : Dialect) (patterns : Patterns) (f g : Text → Judge) (firm : (name : Text) → Firm (f name) (g name))
    (read_contains : dialect.reads_prefix_items ≡ true → dialect.reads_const ≡ true) where
  abbrev pub before : Context
  before = record { dialect = dialect; patterns = patterns; follow = f }

  abbrev pub after : Context
  after = record { dialect = dialect; patterns = patterns; follow = g }

  marks : (raw : Raw) (r s : Readings) → FirmReadings r s → (v : Data) → Settled (all_of (whole before raw r v)) → (p : Part)
      → judged_beside after raw s v p ≡ judged_beside before raw r v p
  marks raw r s h v settled p =
      let all : AllSettled (whole before raw r v) = settled-all_of (whole before raw r v) settled in
      rw (
        own p all.1.1.1.1.1.1.1.1.1.1.1.1.1.1.1.1.0,
        same-list all_of settled-all_of (r (codes "allOf")) (s (codes "allOf")) (h (codes "allOf")) v p all.1.1.1.1.1.1.1.1.1.1.1.1.1.1.1.1.1.1.1.1.1.1.1.1.1.0,
        same-list any_of settled-any_of (r (codes "anyOf")) (s (codes "anyOf")) (h (codes "anyOf")) v p all.1.1.1.1.1.1.1.1.1.1.1.1.1.1.1.1.1.1.1.1.1.1.1.1.1.1.0,
        same-list one_of settled-one_of (r (codes "oneOf")) (s (codes "oneOf")) (h (codes "oneOf")) v p all.1.1.1.1.1.1.1.1.1.1.1.1.1.1.1.1.1.1.1.1.1.1.1.1.1.1.1.0,
        same-condition dialect.reads_const (r (codes "if")) (s (codes "if")) (r (codes "then")) (s (codes "then")) (r (codes "else")) (s (codes "else")) (h (codes "if")) (h (codes "then")) (h (codes "else")) v p all.1.1.1.1.1.1.1.1.1.1.1.1.1.1.1.1.1.1.1.1.1.1.1.1.1.1.1.1.1.0,
        same-dependents dialect.reads_unevaluated (r (codes "dependentSchemas")) (s (codes "dependentSchemas")) (h (codes "dependentSchemas")) v p all.1.1.1.1.1.1.1.1.1.1.1.1.1.1.1.1.1.1.1.1.1.1.1.1.1.1.1.1.1.1.0,
        same-reference f g firm (raw (codes "$ref")) v p all.0,
      ) refl
    where
      own : (p : Part) → Settled (contains_says dialect.reads_const dialect.reads_unevaluated (r (codes "contains"))
          (raw (codes "minContains")) (raw (codes "maxContains")) v)
          → judged_itself after s v p ≡ judged_itself before r v p
      own (key k) settled = rw (
        same-covered patterns (r (codes "properties")) (s (codes "properties")) (r (codes "patternProperties"))
            (s (codes "patternProperties")) (h (codes "properties")) (h (codes "patternProperties")) k,
        same-has_schema (r (codes "additionalProperties")) (s (codes "additionalProperties")) (h (codes "additionalProperties")),
      ) refl
      own (position n) settled = rw (
        same-items dialect.reads_prefix_items (r (codes "prefixItems")) (s (codes "prefixItems"))
            (r (codes "items")) (s (codes "items")) (r (codes "additionalItems")) (s (codes "additionalItems")) (h (codes "prefixItems"))
            (h (codes "items")) (h (codes "additionalItems")) n,
        same-contains dialect.reads_const dialect.reads_prefix_items dialect.reads_unevaluated read_contains (r (codes "contains"))
            (s (codes "contains")) (raw (codes "minContains")) (raw (codes "maxContains")) (h (codes "contains")) v n settled,
      ) refl

  kept-whole : (raw : Raw) (r s : Readings) → FirmReadings r s → (v : Data)
      → ((p : Part) → judged_beside after raw s v p ≡ judged_beside before raw r v p)
      → AllKept (whole before raw r v) (whole after raw s v)
  kept-whole raw r s h v same = (
    kept-reference f g firm (raw (codes "$ref")) v,
    (
      kept-same _,
      (
        kept-same _,
        (
          kept-same _,
          (
            kept-same _,
            (
              kept-same _,
              (
                kept-same _,
                (
                  kept-same _,
                  (
                    kept-same _,
                    (
                      kept-same _,
                      (
                        kept-same _,
                        (
                          kept-same _,
                          (
                            kept-same _,
                            (
                              kept-same _,
                              (
                                kept-same _,
                                (
                                  kept-items dialect.reads_prefix_items (r (codes "prefixItems")) (s (codes "prefixItems")) (r (codes "items")) (s (codes "items")) (r (codes "additionalItems")) (s (codes "additionalItems")) (h (codes "prefixItems")) (h (codes "items")) (h (codes "additionalItems")) v,
                                  (
                                    kept-contains dialect.reads_const dialect.reads_unevaluated (r (codes "contains")) (s (codes "contains")) (raw (codes "minContains")) (raw (codes "maxContains")) (h (codes "contains")) v,
                                    (
                                      kept-same _,
                                      (
                                        kept-same _,
                                        (
                                          kept-same _,
                                          (
                                            kept-same _,
                                            (
                                              kept-names dialect.reads_const (r (codes "propertyNames")) (s (codes "propertyNames")) (h (codes "propertyNames")) v,
                                              (
                                                kept-properties (r (codes "properties")) (s (codes "properties")) (h (codes "properties")) v,
                                                (
                                                  kept-pattern_properties patterns (r (codes "patternProperties")) (s (codes "patternProperties")) (h (codes "patternProperties")) v,
                                                  (
                                                    kept-additional (is_covered patterns (r (codes "properties")) (r (codes "patternProperties"))) (is_covered patterns (s (codes "properties")) (s (codes "patternProperties"))) (same-covered patterns (r (codes "properties")) (s (codes "properties")) (r (codes "patternProperties")) (s (codes "patternProperties")) (h (codes "properties")) (h (codes "patternProperties"))) (r (codes "additionalProperties")) (s (codes "additionalProperties")) (h (codes "additionalProperties")) v,
                                                    (
                                                      kept-each all_of kept-all_of (r (codes "allOf")) (s (codes "allOf")) (h (codes "allOf")) v,
                                                      (
                                                        kept-each any_of kept-any_of (r (codes "anyOf")) (s (codes "anyOf")) (h (codes "anyOf")) v,
                                                        (
                                                          kept-each one_of kept-one_of (r (codes "oneOf")) (s (codes "oneOf")) (h (codes "oneOf")) v,
                                                          (
                                                            kept-not (r (codes "not")) (s (codes "not")) (h (codes "not")) v,
                                                            (
                                                              kept-condition dialect.reads_const (r (codes "if")) (s (codes "if")) (r (codes "then")) (s (codes "then")) (r (codes "else")) (s (codes "else")) (h (codes "if")) (h (codes "then")) (h (codes "else")) v,
                                                              (
                                                                kept-dependents dialect.reads_unevaluated (r (codes "dependentSchemas")) (s (codes "dependentSchemas")) (h (codes "dependentSchemas")) v,
                                                                (
                                                                  kept-dependencies (reads_dependencies dialect) (raw (codes "dependencies")) (r (codes "dependencies")) (s (codes "dependencies")) (h (codes "dependencies")) v,
                                                                  (
                                                                    kept-unevaluated_items dialect.reads_unevaluated (λ n. judged_beside before raw r v (position n)) (λ n. judged_beside after raw s v (position n)) (λ n. same (position n)) (r (codes "unevaluatedItems")) (s (codes "unevaluatedItems")) (h (codes "unevaluatedItems")) v,
                                                                    (
                                                                      kept-unevaluated_properties dialect.reads_unevaluated (λ l. judged_beside before raw r v (key l)) (λ l. judged_beside after raw s v (key l)) (λ l. same (key l)) (r (codes "unevaluatedProperties")) (s (codes "unevaluatedProperties")) (h (codes "unevaluatedProperties")) v,
                                                                      tt,
                                                                    ),
                                                                  ),
                                                                ),
                                                              ),
                                                            ),
                                                          ),
                                                        ),
                                                      ),
                                                    ),
                                                  ),
                                                ),
                                              ),
                                            ),
                                          ),
                                        ),
                                      ),
                                    ),
                                  ),
                                ),
                              ),
                            ),
                          ),
                        ),
                      ),
                    ),
                  ),
                ),
              ),
            ),
          ),
        ),
      ),
    ),
  )

  firm-all : (raw : Raw) (r s : Readings) → FirmReadings r s → Firm (all_keywords before raw r) (all_keywords after raw s)
  unfolding all_keywords
  firm-all raw r s h v = (
    kept-when _ _ (λ settled. kept-all_of (whole before raw r v) (whole after raw s v)
        (kept-whole raw r s h v (marks raw r s h v settled))),
    λ settled p. rw (marks raw r s h v settled p, rest p) refl,
  )
    where
      rest : (p : Part) → judges_rest s p ≡ judges_rest r p
      rest (key k) = same-has_schema (r (codes "unevaluatedProperties")) (s (codes "unevaluatedProperties")) (h (codes "unevaluatedProperties"))
      rest (position n) = same-has_schema (r (codes "unevaluatedItems")) (s (codes "unevaluatedItems")) (h (codes "unevaluatedItems"))

  firm-alone : (raw : Raw) → Firm (reference_alone before raw) (reference_alone after raw)
  firm-alone raw v = (kept-reference f g firm (raw (codes "$ref")) v, λ settled p. same-reference f g firm (raw (codes "$ref")) v p settled)

  firm-keywords : (raw : Raw) (r s : Readings) → FirmReadings r s → Firm (keywords before raw r) (keywords after raw s)
  firm-keywords raw r s h = go (not dialect.judges_siblings && is_reference (raw (codes "$ref"))) (firm-alone raw) (firm-all raw r s h)
    where
      go : (b : Bool) → Firm (reference_alone before raw) (reference_alone after raw)
          → Firm (all_keywords before raw r) (all_keywords after raw s)
          → Firm (if b then reference_alone before raw else all_keywords before raw r)
          (if b then reference_alone after raw else all_keywords after raw s)
      go true one all = one
      go false one all = all

  truth-firm : (b : Bool) → Firm (truth_value b) (truth_value b)
  truth-firm b v = (kept-same (verdict b), λ settled p. refl)

  none-firm : FirmReading no_reading no_reading
  none-firm = record { schema = tt; listed = tt; named = tt; among = tt }

  mutual
    unfolding read_data

    firm-data : (d : Data) → FirmReading (read_data before d) (read_data after d)
    firm-data null = none-firm
    firm-data (boolean b) = record { schema = truth-firm b; listed = tt; named = tt; among = tt }
    firm-data (number n) = none-firm
    firm-data (string t) = none-firm
    firm-data (array ds) = record { schema = tt; listed = firm-items ds; named = tt; among = tt }
    firm-data (object ms) =
        let h = firm-members ms in
        record {
          schema = firm-keywords (λ k. get_member k ms) (reading_at (read_members before ms)) (reading_at (read_members after ms))
              (firm-reading_at _ _ h);
          listed = tt;
          named = firm-all_named _ _ h;
          among = firm-some_named _ _ h;
        }

    firm-items : (ds : Items) → FirmLists (read_items before ds) (read_items after ds)
    firm-items no_items = tt
    firm-items (item d ds) = firm-both _ _ _ _ (firm-data d).schema (firm-items ds)

    firm-members : (ms : Members) → FirmMembers (read_members before ms) (read_members after ms)
    firm-members no_members = tt
    firm-members (member k d ms) = (refl, (firm-data d, firm-members ms))

  pub firm-judge : (d : Data) → Firm (judge before d) (judge after d)
  firm-judge d = go (read_data before d).schema (read_data after d).schema (firm-data d).schema
    where
      go : (x y : Option Judge) → FirmOption x y
          → Firm (elim x [ None ↦ nothing | Some j ↦ j ]) (elim y [ None ↦ nothing | Some j ↦ j ])
      go None None is = λ v. (refl, λ settled p. refl)
      go None (Some k) is = absurd is
      go (Some j) None is = absurd is
      go (Some j) (Some k) is = is

-- ---- references

settles : (w : Verdict) → w ≢ Open → Settled w
settles Yes h = tt
settles No h = tt
settles Open h = h refl

abbrev pub AtMost : ℕ → ℕ → Type 0
AtMost zero m = Unit {0}
AtMost (suc n) zero = ⊥
AtMost (suc n) (suc m) = AtMost n m

pub at-most : (n m : ℕ) → n ≤ m → AtMost n m
at-most zero m h = tt
at-most (suc n) zero h = grind (arith, h)
at-most (suc n) (suc m) h = at-most n m (omega arith)

module _ (dialect : Dialect) (document : Data) (patterns : Patterns)
    (read_contains : dialect.reads_prefix_items ≡ true → dialect.reads_const ≡ true) where
  pub firm-follow : (n m : ℕ) → AtMost n m → (name : Text)
      → Firm (follow dialect document patterns n name) (follow dialect document patterns m name)
  unfolding follow
  firm-follow zero m few name = λ v. (tt, λ settled. absurd settled)
  firm-follow (suc n) zero few name = absurd few
  firm-follow (suc n) (suc m) few name = go (resolved document name)
      (λ d. firm-judge dialect patterns (follow dialect document patterns n) (follow dialect document patterns m)
      (firm-follow n m few) read_contains d)
    where
      go : (o : Option Data) → ((d : Data) → Firm (judge (context dialect document patterns n) d)
          (judge (context dialect document patterns m) d))
          → Firm (elim o [ None ↦ unanswered | Some d ↦ judge (context dialect document patterns n) d ])
          (elim o [ None ↦ unanswered | Some d ↦ judge (context dialect document patterns m) d ])
      go None later = λ v. (tt, λ settled. absurd settled)
      go (Some d) later = later d

  -- what is not open with n references is the same with more, and so are the parts that are judged
  pub judge-more : (n m : ℕ) → n ≤ m → (schema : Data)
      → Firm (judge (context dialect document patterns n) schema) (judge (context dialect document patterns m) schema)
  judge-more n m few schema = firm-judge dialect patterns (follow dialect document patterns n) (follow dialect document patterns m)
      (firm-follow n m (at-most n m few)) read_contains schema

  pub accepts-more : (n m : ℕ) → n ≤ m → (schema v : Data) → accepts dialect document patterns n schema v ≢ Open
      → accepts dialect document patterns m schema v ≡ accepts dialect document patterns n schema v
  accepts-more n m few schema v not_open = kept-settled _ _ (judge-more n m few schema v).0 (settles _ not_open)

  -- what is open with m references is open with fewer
  pub open-before : (n m : ℕ) → n ≤ m → (schema v : Data) → accepts dialect document patterns m schema v ≡ Open
      → accepts dialect document patterns n schema v ≡ Open
  open-before n m few schema v is = go _ _ (judge-more n m few schema v).0 is
    where
      go : (a x : Verdict) → Kept a x → x ≡ Open → a ≡ Open
      go Open x h is = refl
      go Yes x h is = cc
      go No x h is = cc
