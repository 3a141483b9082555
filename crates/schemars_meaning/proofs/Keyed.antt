-- What the document of a map says under 2020-12, whose keys are those that the type of its keys allows.
use Rattle.std.proofs.Common.{◌≡◌, ℕ, ◌<◌, ◌≤◌, List, [], ◌∷◌, ◌++◌, map, Option, Some, None, Bool, true, false, refl, sym, ap, ◌∙◌, arith, option_map, true≢false, inl, inr, subst, Ordering, Less, Equal, Greater, nat_cmp, filter, not}
use Rattle.schemars_meaning.proofs.Words.{codes, bytes_eq, if◌then◌else◌, is_some, ◌&&◌, ◌||◌, bytes_eq-Decides, Data, null, boolean, number, string, array, object, Members, no_members, member, put, depth, get_member, slice_cmp, match_ordering, exact_bytes, or-false, list_any, option_map_or, get_member-put, get_member-put_other, Verdict, Yes, No, both, verdict, Text, IsJson, IsSchema, object_of, put_all, Patterns, Judge, Context, judge, each_member, schema_named, where_some, Reading, type_says, properties_say, additional_properties_say, is_covered, both-yes, both-verdict, each_agree, schema-judge, silent, context2020_12, IsReady, KeyOptions, keys, every_member, holds, Keyword, typed, Ask, part, Template, no_templates, template, finished, row, asks_of, asks_in, filled, filled_in, keyed, KeywordTemplate, templates_of, values_template, values_of, all_patterns, pattern_properties_at, properties_at, members_depth, as_object, or-true, AreJsonMembers, is_listed, matches, matches_some, by_patterns, pattern_properties_say, both-middle, pattern_of, is_key_allowed, has_keys, object_with, other_values, read_data, all_keywords}
use Rattle.schemars_shapes.specs.declared.shape.IntegerKeys.{IntegerKeys}
use Rattle.schemars_templates.specs.Nodes.{typed_template as typed_at}
use Rattle.schemars_meaning.proofs.MapDocument.{properties_keyword}
use Rattle.schemars_meaning.proofs.Named.{AreEntries, schema_named-judges_in, judges_in, all_named-schemas, AreSchemas-put_all, each_yes, IsNoMap}
use Rattle.schemars_meaning.proofs.Maps.{judges_of, named_says, properties_value, named_part}
use Rattle.schemars_meaning.proofs.Filling.{Fit, without_end, parted}

-- a map with these keys, those that match one of the patterns, and others with this schema
abbrev keyed_template : ℕ → Template → List Text → List Text → Template
keyed_template value other texts qs =
    object_with (typed_at (codes "object") ∷ (codes "additionalProperties", other)
    ∷ (pattern_properties_at (values_of value qs) ++ properties_at (values_of value texts)))

-- ---- null can be added

keyed_ready : (other : Template) (texts qs : List Text) (value : ℕ) (us : List Data)
    → IsReady (filled (keyed_template value other texts qs) us)
keyed_ready other [] [] value us = inr (record { alone = refl; type_form = refl; values = inl refl; not_form = inl refl })
keyed_ready other (t ∷ texts) [] value us =
    inr (record { alone = refl; type_form = refl; values = inl refl; not_form = inl refl })
keyed_ready other [] (q ∷ qs) value us =
    inr (record { alone = refl; type_form = refl; values = inl refl; not_form = inl refl })
keyed_ready other (t ∷ texts) (q ∷ qs) value us =
    inr (record { alone = refl; type_form = refl; values = inl refl; not_form = inl refl })

pub values_ready : (options : KeyOptions) (value : ℕ) (us : List Data) → IsReady (filled (values_template options value) us)
values_ready (keys others texts integers ps) value us =
    keyed_ready (other_values others value) texts (all_patterns integers ps) value us

-- ---- members

each_both : (p q : Text → Data → Verdict) (ms : Members)
    → both (each_member p ms) (each_member q ms) ≡ each_member (λ k w. both (p k w) (q k w)) ms
each_both p q no_members = refl
each_both p q (member k w ms) =
    both-middle (p k w) (each_member p ms) (q k w) (each_member q ms) ∙ ap (both (both (p k w) (q k w))) (each_both p q ms)

each_tests : (says : Text → Data → Verdict) (test : Text → Data → Bool) (ms : Members) → AreJsonMembers ms
    → ((k : Text) (w : Data) → IsJson w → depth w ≤ members_depth ms → says k w ≡ verdict (test k w))
    → each_member says ms ≡ verdict (every_member test ms)
each_tests says test no_members json same = refl
each_tests says test (member k w ms) json same =
    rw (same k w json.1 (omega arith), each_tests says test ms json.3 (λ l u is less. same l u is (omega arith))) (both-verdict _ _)

idem : (b : Bool) → both (verdict b) (verdict b) ≡ verdict b
idem true = refl
idem false = refl

or-twice : (a b : Bool) → a || b ≡ a || (a || b)
or-twice true b = refl
or-twice false b = refl

or-turned : (a b d : Bool) → a || (b || d) ≡ b || (a || d)
or-turned true true d = refl
or-turned true false d = refl
or-turned false b d = refl

or-moved : (a b d : Bool) → b || (a || d) ≡ (a || b) || d
or-moved true true d = refl
or-moved true false d = refl
or-moved false b d = refl

-- a pattern in front of the others
some_first : (test : Text → Bool) (r : Text) (ps : List Text)
    → test r || list_any test (filter (λ q. not (bytes_eq q r)) ps) ≡ test r || list_any test ps
some_first test r ps = by (test r) refl
  where
    left_out : test r ≡ false → (qs : List Text)
        → list_any test (filter (λ q. not (bytes_eq q r)) qs) ≡ list_any test qs
    left_out none [] = refl
    left_out none (q ∷ qs) = go (bytes_eq q r) refl (left_out none qs)
      where
        go : (b : Bool) → bytes_eq q r ≡ b → list_any test (filter (λ x. not (bytes_eq x r)) qs) ≡ list_any test qs
            → list_any test
            (if not b then q ∷ filter (λ x. not (bytes_eq x r)) qs else filter (λ x. not (bytes_eq x r)) qs)
            ≡ test q || list_any test qs
        go true same rest =
            let no_test : test q ≡ false = ap test ((bytes_eq-Decides q r).0 same) ∙ none in rw no_test rest
        go false other rest = ap (λ b. test q || b) rest

    by : (b : Bool) → test r ≡ b → b || list_any test (filter (λ q. not (bytes_eq q r)) ps) ≡ b || list_any test ps
    by true is = refl
    by false is = left_out is ps

module _ (patterns : Patterns) (f : Text → Judge) (A : Ask → Data → Type 0) (p : Data → Bool) (value : ℕ)
    (schemas : (t : Data) → A (part value) t → IsSchema t) where
  abbrev c : Context
  c = context2020_12 patterns f

  -- the schemas of the values test so
  abbrev Agrees : Data → Type 0
  Agrees v = (t w : Data) → A (part value) t → IsJson w → depth w < depth v → (judge c t).fits w ≡ verdict (p w)

  -- ---- the texts

  abbrev texts_at : List Text → List KeywordTemplate
  texts_at texts = map (λ t. (t, row value)) texts

  abbrev text_asks : List Text → List Ask
  text_asks texts = asks_in (templates_of (map (λ e. e.1) (texts_at texts)))

  abbrev entries_at : List Text → List Data → List Keyword
  entries_at texts us = keyed (map (λ e. e.0) (texts_at texts)) (filled_in (templates_of (map (λ e. e.1) (texts_at texts))) us)

  are_entries : (texts : List Text) (us : List Data) → Fit A (text_asks texts) us → AreEntries (entries_at texts us)
  are_entries [] us h = tt
  are_entries (t ∷ texts) [] h = absurd h
  are_entries (t ∷ texts) (u ∷ us) h = (schemas u h.0, are_entries texts us h.1)

  -- each of the texts has a schema of the value
  abbrev Found : Bool → Option Data → Option Data → Type 0
  Found false g before = g ≡ before
  Found true g before = (t : Data) × A (part value) t × (g ≡ Some t)

  found : (k : Text) (texts : List Text) (us : List Data) (ms : Members) → Fit A (text_asks texts) us
      → Found (is_listed k texts) (get_member k (put_all (entries_at texts us) ms)) (get_member k ms)
  found k [] us ms h = refl
  found k (t ∷ texts) [] ms h = absurd h
  found k (t ∷ texts) (u ∷ us) ms h = go (bytes_eq k t) (is_listed k texts) refl (found k texts us (put t u ms) h.1)
    where
      g : Option Data
      g = get_member k (put_all (entries_at texts us) (put t u ms))

      apart : bytes_eq k t ≡ false → k ≡ t → ⊥
      apart other same = true≢false (sym ((bytes_eq-Decides k t).1 same) ∙ other)

      go : (b later : Bool) → bytes_eq k t ≡ b → Found later g (get_member k (put t u ms)) → Found (b || later) g (get_member k ms)
      go true true is there = there
      go false true is there = there
      go true false is there = (u, h.0, there ∙ rw ((bytes_eq-Decides k t).0 is) (get_member-put t u ms))
      go false false is there = there ∙ get_member-put_other k t u ms (apart is)

  -- ---- schemas by pattern

  -- each of them is one of the values
  abbrev OfValue : Members → Type 0
  OfValue no_members = Unit {0}
  OfValue (member k d ms) = A (part value) d × OfValue ms

  of_value-match : (o : Ordering) (x y z : Members) → OfValue x → OfValue y → OfValue z
      → OfValue (match_ordering o x y z)
  of_value-match Less x y z a b d = a
  of_value-match Equal x y z a b d = b
  of_value-match Greater x y z a b d = d

  of_value-put : (k : Text) (d : Data) (ms : Members) → A (part value) d → OfValue ms → OfValue (put k d ms)
  of_value-put k d no_members here h = (here, tt)
  of_value-put k d (member l e ms) here h = of_value-match (slice_cmp nat_cmp k l) _ _ _ (here, h) (here, h.1)
      (h.0, of_value-put k d ms here h.1)

  of_value : (ps : List Text) (vs : List Data) (ms : Members) → Fit A (text_asks ps) vs → OfValue ms
      → OfValue (put_all (entries_at ps vs) ms)
  of_value [] vs ms fit h = h
  of_value (q ∷ ps) [] ms fit h = absurd fit
  of_value (q ∷ ps) (u ∷ vs) ms fit h = of_value ps vs (put q u ms) fit.1 (of_value-put q u ms fit.0 h)

  abbrev some_of : Members → Text → Bool
  some_of ms k = matches_some patterns (judges_in c ms) k

  -- where one of the patterns matches, the value is asked
  matching : (ms : Members) (k : Text) (w : Data) → OfValue ms
      → ((t : Data) → A (part value) t → (judge c t).fits w ≡ verdict (p w))
      → by_patterns patterns (judges_in c ms) k w ≡ (if some_of ms k then verdict (p w) else Yes)
  unfolding judges_in
  matching no_members k w h agree = refl
  matching (member q d ms) k w h agree =
      rw (agree d h.0, matching ms k w h.1 agree) (go (matches patterns q k) (some_of ms k))
    where
      go : (a b : Bool) → both (if a then verdict (p w) else Yes) (if b then verdict (p w) else Yes)
          ≡ (if a || b then verdict (p w) else Yes)
      go true true = idem (p w)
      go true false = both-yes _
      go false b = refl

  some-put : (q : Text) (d : Data) (ms : Members) (k : Text)
      → some_of (put q d ms) k ≡ matches patterns q k || some_of ms k
  unfolding judges_in
  some-put q d no_members k = refl
  some-put q d (member l e ms) k = go (slice_cmp nat_cmp q l) refl (some-put q d ms k)
    where
      go : (o : Ordering) → slice_cmp nat_cmp q l ≡ o → some_of (put q d ms) k ≡ matches patterns q k || some_of ms k
          → some_of (match_ordering o (member q d (member l e ms)) (member l d ms) (member l e (put q d ms))) k
          ≡ matches patterns q k || (matches patterns l k || some_of ms k)
      go Less is rest = refl
      go Equal is rest = rw (exact_bytes q l is) (or-twice (matches patterns l k) (some_of ms k))
      go Greater is rest = rw rest (or-turned (matches patterns l k) (matches patterns q k) (some_of ms k))

  some-put_all : (ps : List Text) (vs : List Data) (ms : Members) (k : Text) → Fit A (text_asks ps) vs
      → some_of (put_all (entries_at ps vs) ms) k ≡ list_any (λ q. matches patterns q k) ps || some_of ms k
  some-put_all [] vs ms k fit = refl
  some-put_all (q ∷ ps) [] ms k fit = absurd fit
  some-put_all (q ∷ ps) (u ∷ vs) ms k fit =
      some-put_all ps vs (put q u ms) k fit.1
      ∙ (ap (λ b. list_any (λ x. matches patterns x k) ps || b) (some-put q u ms k)
      ∙ or-moved (matches patterns q k) (list_any (λ x. matches patterns x k) ps) (some_of ms k))

  some_matches : (ps : List Text) (vs : List Data) (k : Text) → Fit A (text_asks ps) vs
      → some_of (put_all (entries_at ps vs) no_members) k ≡ list_any (λ q. matches patterns q k) ps
  unfolding judges_in
  some_matches ps vs k fit = some-put_all ps vs no_members k fit ∙ or-false (list_any (λ q. matches patterns q k) ps)

  -- ---- these texts, those that match one of the patterns, and others

  abbrev pattern_keyword : List Keyword → List Keyword
  pattern_keyword [] = []
  pattern_keyword (e ∷ es) = (codes "patternProperties", object_of (e ∷ es)) ∷ []

  -- what is neither listed nor matches has the first schema
  abbrev keyed_document : Data → List Keyword → List Keyword → Data
  keyed_document other qs es = object_of (typed (codes "object") ∷ (codes "additionalProperties", other)
      ∷ (pattern_keyword qs ++ properties_keyword es))

  abbrev covered : List Keyword → List (Text × Judge) → Text → Bool
  covered qs ss k = is_some (schema_named k ss) || some_of (put_all qs no_members) k

  pattern_value : List Keyword → Option Reading
  pattern_value [] = None
  pattern_value (q ∷ qs) = Some (read_data c (object_of (q ∷ qs)))

  keyed_says : Data → List Keyword → List Keyword → Data → Verdict
  keyed_says other qs es v =
      both (type_says false (Some (string (codes "object"))) None v)
      (both (properties_say (properties_value c es) v)
      (both (pattern_properties_say patterns (pattern_value qs) v)
      (additional_properties_say (is_covered patterns (properties_value c es) (pattern_value qs))
      (Some (read_data c other)) v)))

  judge-keyed : (other : Data) (qs es : List Keyword) (v : Data)
      → (judge c (keyed_document other qs es)).fits v ≡ keyed_says other qs es v
  unfolding read_data all_keywords keyed_says properties_value pattern_value
  judge-keyed other [] [] v = rw both-yes refl
  judge-keyed other [] (e ∷ es) v = rw both-yes refl
  judge-keyed other (q ∷ qs) [] v = rw both-yes refl
  judge-keyed other (q ∷ qs) (e ∷ es) v = rw both-yes refl

  pattern_part : (qs : List Keyword) → AreEntries qs → (ms : Members)
      → pattern_properties_say patterns (pattern_value qs) (object ms)
      ≡ each_member (by_patterns patterns (judges_in c (put_all qs no_members))) ms
  unfolding pattern_value read_data judges_in
  pattern_part [] are ms = sym (each_yes ms)
  pattern_part (q ∷ qs) are ms =
      rw (all_named-schemas c (put_all (q ∷ qs) no_members) (AreSchemas-put_all (q ∷ qs) no_members are tt))

  covered_part : (qs es : List Keyword) → AreEntries qs → AreEntries es → (k : Text)
      → is_covered patterns (properties_value c es) (pattern_value qs) k ≡ covered qs (judges_of patterns f es) k
  unfolding pattern_value properties_value read_data judges_in
  covered_part [] [] are h k = refl
  covered_part [] (e ∷ es) are h k =
      rw (all_named-schemas c (put_all (e ∷ es) no_members) (AreSchemas-put_all (e ∷ es) no_members h tt))
  covered_part (q ∷ qs) [] are h k =
      rw (all_named-schemas c (put_all (q ∷ qs) no_members) (AreSchemas-put_all (q ∷ qs) no_members are tt))
  covered_part (q ∷ qs) (e ∷ es) are h k = rw (
    all_named-schemas c (put_all (q ∷ qs) no_members) (AreSchemas-put_all (q ∷ qs) no_members are tt),
    all_named-schemas c (put_all (e ∷ es) no_members) (AreSchemas-put_all (e ∷ es) no_members h tt),
  )

  -- a member that nothing covers has to fit
  abbrev uncovered_says : Data → List Keyword → List (Text × Judge) → Text → Data → Verdict
  uncovered_says other qs ss k w = if covered qs ss k then Yes else (judge c other).fits w

  other_part : (other : Data) (qs es : List Keyword) → IsSchema other → AreEntries qs → AreEntries es → (ms : Members)
      → additional_properties_say (is_covered patterns (properties_value c es) (pattern_value qs))
      (Some (read_data c other)) (object ms) ≡ each_member (uncovered_says other qs (judges_of patterns f es)) ms
  other_part other qs es is are h ms = rw (schema-judge c other is)
      (each_agree _ _ (λ k w. ap (λ b. if b then Yes else (judge c other).fits w) (covered_part qs es are h k)) ms)

  keyed-object : (other : Data) (qs es : List Keyword) → IsSchema other → AreEntries qs → AreEntries es → (ms : Members)
      → (judge c (keyed_document other qs es)).fits (object ms)
      ≡ both (each_member (named_says patterns f (judges_of patterns f es)) ms)
      (both (each_member (by_patterns patterns (judges_in c (put_all qs no_members))) ms)
      (each_member (uncovered_says other qs (judges_of patterns f es)) ms))
  unfolding keyed_says
  keyed-object other qs es is are h ms = judge-keyed other qs es (object ms)
      ∙ rw (named_part patterns f es h ms, pattern_part qs are ms, other_part other qs es is are h ms)

  keyed-other : (other : Data) (qs es : List Keyword) (v : Data) → IsNoMap v
      → (judge c (keyed_document other qs es)).fits v ≡ No
  unfolding keyed_says
  keyed-other other qs es (object ms) h = absurd h
  keyed-other other qs es null h = judge-keyed other qs es null ∙ simp silent
  keyed-other other qs es (boolean b) h = judge-keyed other qs es (boolean b) ∙ simp silent
  keyed-other other qs es (number n) h = judge-keyed other qs es (number n) ∙ simp silent
  keyed-other other qs es (string t) h = judge-keyed other qs es (string t) ∙ simp silent
  keyed-other other qs es (array ds) h = judge-keyed other qs es (array ds) ∙ simp silent

  -- a schema of the values where other keys are allowed, and otherwise of none
  abbrev IsOther : Bool → Data → Type 0
  IsOther true d = A (part value) d
  IsOther false d = d ≡ boolean false

  other_schema : (others : Bool) (d : Data) → IsOther others d → IsSchema d
  other_schema true d is = schemas d is
  other_schema false d is = subst IsSchema (sym is) tt

  other_fits : (others : Bool) (d w : Data) → IsOther others d
      → ((t : Data) → A (part value) t → (judge c t).fits w ≡ verdict (p w))
      → (judge c d).fits w ≡ verdict (others && p w)
  unfolding read_data
  other_fits true d w is agree = agree d is
  other_fits false d w is agree = ap (λ x. (judge c x).fits w) is

  keys_say : (others listed matched : Bool) (o : Option Data) (d w : Data) → Found listed o None → IsOther others d
      → ((t : Data) → A (part value) t → (judge c t).fits w ≡ verdict (p w))
      → both (where_some (option_map (judge c) o) (λ s. s.fits w)) (both (if matched then verdict (p w) else Yes)
      (if is_some (option_map (judge c) o) || matched then Yes else (judge c d).fits w))
      ≡ verdict ((others || (listed || matched)) && p w)
  keys_say others false false o d w h is agree = rw (h, or-false others) (other_fits others d w is agree)
  keys_say others false true o d w h is agree = rw (h, or-true others) (both-yes _)
  keys_say others true false o d w h is agree = rw (h.2, or-true others) (both-yes _ ∙ agree h.0 h.1)
  keys_say others true true o d w h is agree =
      rw (h.2, or-true others, agree h.0 h.1) (ap (both (verdict (p w))) (both-yes _) ∙ idem (p w))

  -- which keys there are
  abbrev HasKeys : (Text → Bool) → Data → Bool
  HasKeys allowed v = holds (as_object v) (every_member (λ k w. allowed k && p w))

  document_says : (others : Bool) (d : Data) → IsOther others d
      → (ps : List Text) (vs : List Data) → Fit A (text_asks ps) vs → (texts : List Text) (us : List Data)
      → Fit A (text_asks texts) us → (allowed : Text → Bool)
      → ((k : Text) → allowed k ≡ others || (is_listed k texts || list_any (λ q. matches patterns q k) ps))
      → (v : Data) → IsJson v → Agrees v
      → (judge c (keyed_document d (entries_at ps vs) (entries_at texts us))).fits v ≡ verdict (HasKeys allowed v)
  document_says others d other ps vs fit texts us h allowed same (object ms) json agree =
      let qs = entries_at ps vs in
      let es = entries_at texts us in
      let ss = judges_of patterns f es in
      keyed-object d qs es (other_schema others d other) (are_entries ps vs fit) (are_entries texts us h) ms
      ∙ (ap (both (each_member (named_says patterns f ss) ms))
      (each_both (by_patterns patterns (judges_in c (put_all qs no_members))) (uncovered_says d qs ss) ms)
      ∙ (each_both (named_says patterns f ss) _ ms
      ∙ each_tests _ (λ k w. allowed k && p w) ms json
      (λ k w is less. rw (
        matching (put_all qs no_members) k w (of_value ps vs no_members fit tt)
            (λ t there. agree t w there is (omega arith)),
        some_matches ps vs k fit,
        same k,
        schema_named-judges_in,
      ) (keys_say others (is_listed k texts) (list_any (λ q. matches patterns q k) ps) _ d w
      (found k texts us no_members h) other (λ t there. agree t w there is (omega arith))))))
  document_says others d other ps vs fit texts us h allowed same null json agree =
      keyed-other d (entries_at ps vs) (entries_at texts us) null tt
  document_says others d other ps vs fit texts us h allowed same (boolean b) json agree =
      keyed-other d (entries_at ps vs) (entries_at texts us) (boolean b) tt
  document_says others d other ps vs fit texts us h allowed same (number n) json agree =
      keyed-other d (entries_at ps vs) (entries_at texts us) (number n) tt
  document_says others d other ps vs fit texts us h allowed same (string s) json agree =
      keyed-other d (entries_at ps vs) (entries_at texts us) (string s) tt
  document_says others d other ps vs fit texts us h allowed same (array ds) json agree =
      keyed-other d (entries_at ps vs) (entries_at texts us) (array ds) tt

  -- ---- all maps

  keyed_say : (others : Bool) (d : Data) → IsOther others d → (texts qs : List Text) (allowed : Text → Bool)
      → ((k : Text) → allowed k ≡ others || (is_listed k texts || list_any (λ q. matches patterns q k) qs))
      → (v : Data) → IsJson v → Agrees v → (us : List Data) → Fit A (asks_of (keyed_template value (finished d) texts qs)) us
      → (judge c (filled (keyed_template value (finished d) texts qs) us)).fits v ≡ verdict (HasKeys allowed v)
  keyed_say others d other [] [] allowed same v json agree us h =
      document_says others d other [] [] refl [] [] refl allowed same v json agree
  keyed_say others d other (t ∷ texts) [] allowed same v json agree us h =
      document_says others d other [] [] refl (t ∷ texts) us (without_end A (text_asks (t ∷ texts)) us h) allowed same v json agree
  keyed_say others d other [] (q ∷ qs) allowed same v json agree us h =
      document_says others d other (q ∷ qs) us (without_end A (text_asks (q ∷ qs)) us h) [] [] refl allowed same v json agree
  keyed_say others d other (t ∷ texts) (q ∷ qs) allowed same v json agree us h =
      let rest = template (object_with (values_of value (t ∷ texts))) no_templates in
      let parts = parted A (object_with (values_of value (q ∷ qs))) (asks_in rest) us h in
      rw (parts.4, parts.5) (document_says others d other (q ∷ qs) parts.0 parts.2 (t ∷ texts) parts.1
      (without_end A (text_asks (t ∷ texts)) parts.1 parts.3) allowed same v json agree)

  all_match : (integers : Option IntegerKeys) (ps : List Text) (k : Text)
      → list_any (λ q. matches patterns q k) (all_patterns integers ps)
      ≡ option_map_or (λ i. matches patterns (pattern_of i) k) integers false || list_any (λ q. matches patterns q k) ps
  all_match None ps k = refl
  all_match (Some kind) ps k = some_first (λ q. matches patterns q k) (pattern_of kind) ps

  pub values_say : (options : KeyOptions) (v : Data) → IsJson v → Agrees v → (us : List Data)
      → Fit A (asks_of (values_template options value)) us
      → (judge c (filled (values_template options value) us)).fits v ≡ verdict (has_keys patterns options p v)
  values_say (keys true texts integers ps) v json agree [] h = absurd h
  values_say (keys true texts integers ps) v json agree (u ∷ us) h =
      keyed_say true u h.0 texts (all_patterns integers ps) (is_key_allowed patterns (keys true texts integers ps))
      (λ k. refl) v json agree us h.1
  values_say (keys false texts integers ps) v json agree us h =
      keyed_say false (boolean false) refl texts (all_patterns integers ps) (is_key_allowed patterns (keys false texts integers ps))
      (λ k. ap (λ b. is_listed k texts || b) (sym (all_match integers ps k))) v json agree us h
