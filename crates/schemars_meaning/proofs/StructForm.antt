-- What the document of a struct says, with the enums that are flattened into it: several of them are under `allOf`, and one
-- may be under `oneOf`. Where it is closed, `unevaluatedProperties` refuses just the keys that belong to nothing.
use Rattle.std.proofs.Common.{◌≡◌, List, [], ◌∷◌, ◌++◌, map, Option, Some, None, Bool, true, false, option_map, refl, sym, ap, ◌∙◌, true≢false}
use Rattle.schemars_meaning.proofs.Words.{and-true, or-false, codes, if◌then◌else◌, is_some, ◌&&◌, ◌||◌, not, Data, boolean, string, array, object, Members, no_members, member, items_of, Text, put_all, Verdict, Yes, No, both, verdict, all_of, one_of, Context, Judge, judge, read_items, judged_by_list, each_says, each_member, where_some, have_all, schema_named, is_covered, required_says, properties_say, additional_properties_say, both-yes, both-verdict, each_agree, exactly_one, VariantMatch, every_part, claimed_by, is_key_of_match, excludes_key, Keyword, and-false, or-true, and_assoc, or_assoc, not-not, Open, is_yes, key, unevaluated_properties_say, judged_by_some, read_data, says, texts_in-text_items}
use Rattle.schemars_meaning.proofs.MapKeywords.{properties_there, required_there, closed_there}
use Rattle.schemars_meaning.proofs.Named.{judges_in, all_named-schemas, AreSchemas-put_all, AreEntries, each_yes}
use Rattle.schemars_meaning.proofs.MapForm.{Keywords, look_up, covered, beside, says-fits, object_type}
use Rattle.schemars_meaning.proofs.Offers.{AllSay, one_object, one_fits, judged_one, object_fits, object_judges}

-- ---- choices in their places

-- the schemas of an enum, and what they offer
pub record Part : Type 0 where
  pub items : List Data
  pub choices : List VariantMatch

-- parts under `allOf`, and one under `oneOf`, or none
pub record Parts : Type 0 where
  pub all : List Part
  pub one : Option Part

abbrev pub one_in : Option Part → List (List VariantMatch)
one_in None = []
one_in (Some p) = p.choices ∷ []

abbrev pub all_in : List Part → List (List VariantMatch)
all_in ps = map (λ p. p.choices) ps

abbrev pub choices_in : Parts → List (List VariantMatch)
choices_in ps = all_in ps.all ++ one_in ps.one

abbrev pub objects : List Part → List Data
objects ps = map (λ p. one_object p.items) ps

unfoldable pub all_there : List Part → Option Data
all_there [] = None
all_there (p ∷ ps) = Some (array (items_of (objects (p ∷ ps))))

abbrev pub list_of : Part → Data
list_of p = array (items_of p.items)

unfoldable pub one_there : Option Part → Option Data
one_there None = None
one_there (Some p) = Some (list_of p)

-- the keyword for the rest, as it has to be beside choices
abbrev pub additional_beside : List Part → Option Part → Bool → Option Data
additional_beside [] None closed = closed_there closed
additional_beside [] (Some p) closed = None
additional_beside (q ∷ qs) o closed = None

abbrev pub additional_there : Parts → Bool → Option Data
additional_there ps closed = additional_beside ps.all ps.one closed

abbrev pub unevaluated_beside : List Part → Option Part → Bool → Option Data
unevaluated_beside [] None closed = None
unevaluated_beside [] (Some p) closed = closed_there closed
unevaluated_beside (q ∷ qs) o closed = closed_there closed

abbrev pub unevaluated_there : Parts → Bool → Option Data
unevaluated_there ps closed = unevaluated_beside ps.all ps.one closed

-- the keywords of a map with these properties, required names and choices, and with these of its type and for the rest
abbrev pub any_keywords : Option Data → List Keyword → List Text → Parts → Option Data → Option Data → Keywords
any_keywords t es ns ps additional unevaluated = record {
  type = t;
  properties = properties_there es;
  required = required_there ns;
  additional = additional;
  all = all_there ps.all;
  one = one_there ps.one;
  unevaluated = unevaluated;
}

abbrev pub struct_keywords : List Keyword → List Text → Parts → Bool → Keywords
struct_keywords es ns ps closed =
    any_keywords (Some (string (codes "object"))) es ns ps (additional_there ps closed) (unevaluated_there ps closed)

-- ---- choices behind each other

both-no : (b : Bool) → both No (verdict b) ≡ No
both-no true = refl
both-no false = refl

pub every_part-append : (ps qs : List (List VariantMatch)) → every_part (ps ++ qs) ≡ every_part ps && every_part qs
every_part-append [] qs = refl
every_part-append (os ∷ ps) qs =
    ap (λ b. exactly_one (map (λ (o : VariantMatch). o.fits) os) && b) (every_part-append ps qs)
    ∙ sym (and_assoc (exactly_one (map (λ (o : VariantMatch). o.fits) os)) (every_part ps) (every_part qs))

pub claims-append : (ps qs : List (List VariantMatch)) (k : Text) → is_key_of_match (ps ++ qs) k ≡ is_key_of_match ps k || is_key_of_match qs k
claims-append [] qs k = refl
claims-append (os ∷ ps) qs k =
    ap (λ b. claimed_by os k || b) (claims-append ps qs k) ∙ sym (or_assoc (claimed_by os k) (is_key_of_match ps k) (is_key_of_match qs k))

-- ---- what each keyword says

module _ (c : Context) (on : c.dialect.reads_unevaluated ≡ true) where
  abbrev pub PartsSay : List Part → Data → Type 0
  PartsSay [] v = Unit {0}
  PartsSay (p ∷ ps) v = AllSay c p.items p.choices v × PartsSay ps v

  abbrev pub OneSays : Option Part → Data → Type 0
  OneSays None v = Unit {0}
  OneSays (Some p) v = AllSay c p.items p.choices v

  abbrev pub ChoicesSay : Parts → Data → Type 0
  ChoicesSay ps v = PartsSay ps.all v × OneSays ps.one v

  -- under `allOf`
  objects_read : (ps : List Part) → read_items c (items_of (objects ps)) ≡ Some (map (judge c) (objects ps))
  unfolding read_data
  objects_read [] = refl
  objects_read (p ∷ ps) = rw (objects_read ps) refl

  objects_fit : (ps : List Part) (v : Data) → PartsSay ps v
      → all_of (map (λ (s : Judge). s.fits v) (map (judge c) (objects ps))) ≡ verdict (every_part (all_in ps))
  objects_fit [] v h = refl
  objects_fit (p ∷ ps) v h =
      (λ i. both (object_fits c on p.items p.choices v h.0 i) (objects_fit ps v h.1 i)) ∙ both-verdict _ _

  pub all_fits : (ps : List Part) (v : Data) → PartsSay ps v
      → each_says all_of (option_map (read_data c) (all_there ps)) v ≡ verdict (every_part (all_in ps))
  unfolding all_there read_data
  all_fits [] v h = refl
  all_fits (p ∷ ps) v h = rw (objects_read ps) (objects_fit (p ∷ ps) v h)

  -- where each of them fits, their members are judged
  objects_judge : (ps : List Part) (v : Data) (k : Text) → PartsSay ps v → every_part (all_in ps) ≡ true
      → judged_by_some (map (judge c) (objects ps)) v (key k) ≡ is_key_of_match (all_in ps) k
  objects_judge [] v k h fit = refl
  objects_judge (p ∷ ps) v k h fit =
      go (exactly_one (map (λ (o : VariantMatch). o.fits) p.choices)) (object_fits c on p.items p.choices v h.0) fit
      (objects_judge ps v k h.1)
    where
      go : (b : Bool) → (judge c (one_object p.items)).fits v ≡ verdict b → b && every_part (all_in ps) ≡ true
          → (every_part (all_in ps) ≡ true → judged_by_some (map (judge c) (objects ps)) v (key k) ≡ is_key_of_match (all_in ps) k)
          → (is_yes ((judge c (one_object p.items)).fits v) && (judge c (one_object p.items)).judges v (key k))
          || judged_by_some (map (judge c) (objects ps)) v (key k) ≡ claimed_by p.choices k || is_key_of_match (all_in ps) k
      go false is all later = absurd (true≢false (sym all))
      go true is all later =
          ap (λ x. (is_yes x && (judge c (one_object p.items)).judges v (key k)) || judged_by_some (map (judge c) (objects ps)) v (key k)) is
          ∙ (λ i. object_judges c on p.items p.choices v k h.0 i || later all i)

  all_judge : (ps : List Part) (v : Data) (k : Text) → PartsSay ps v → every_part (all_in ps) ≡ true
      → judged_by_list (option_map (read_data c) (all_there ps)) v (key k) ≡ is_key_of_match (all_in ps) k
  unfolding all_there read_data
  all_judge [] v k h fit = refl
  all_judge (p ∷ ps) v k h fit = rw (objects_read ps) (objects_judge (p ∷ ps) v k h fit)

  -- under `oneOf`
  pub one_fit : (o : Option Part) (v : Data) → OneSays o v
      → each_says one_of (option_map (read_data c) (one_there o)) v ≡ verdict (every_part (one_in o))
  unfolding one_there
  one_fit None v h = refl
  one_fit (Some p) v h = one_fits c p.items p.choices v h ∙ ap verdict (sym (and-true _))

  one_judge : (o : Option Part) (v : Data) (k : Text) → OneSays o v
      → judged_by_list (option_map (read_data c) (one_there o)) v (key k) ≡ is_key_of_match (one_in o) k
  unfolding one_there
  one_judge None v k h = refl
  one_judge (Some p) v k h = judged_one c p.items p.choices v k h ∙ sym (or-false _)

  -- ---- members

  abbrev pub judges_of : List Keyword → List (Text × Judge)
  judges_of es = judges_in c (put_all es no_members)

  -- a member that has a schema under its name fits it
  abbrev pub named_says : List (Text × Judge) → Text → Data → Verdict
  named_says ss k w = where_some (schema_named k ss) (λ s. s.fits w)

  -- one that has none is refused where its key is
  abbrev pub rest_says : (Text → Bool) → List (Text × Judge) → Text → Data → Verdict
  rest_says excludes_key ss k w = if is_some (schema_named k ss) || not (excludes_key k) then Yes else No

  named_part : (es : List Keyword) → AreEntries es → (ms : Members)
      → properties_say (option_map (read_data c) (properties_there es)) (object ms) ≡ each_member (named_says (judges_of es)) ms
  unfolding properties_there read_data judges_in
  named_part [] h ms = sym (each_yes ms)
  named_part (e ∷ es) h ms = rw (all_named-schemas c (put_all (e ∷ es) no_members) (AreSchemas-put_all (e ∷ es) no_members h tt))

  pub covered_by : (es : List Keyword) → AreEntries es → (k : Text)
      → is_covered c.patterns (option_map (read_data c) (properties_there es)) None k ≡ is_some (schema_named k (judges_of es))
  unfolding properties_there read_data judges_in
  covered_by [] h k = refl
  covered_by (e ∷ es) h k =
      rw (all_named-schemas c (put_all (e ∷ es) no_members) (AreSchemas-put_all (e ∷ es) no_members h tt)) (or-false _)

  required_part : (ns : List Text) (ms : Members) → required_says (required_there ns) (object ms) ≡ verdict (have_all ns ms)
  unfolding required_there
  required_part [] ms = refl
  required_part (n ∷ ns) ms = rw (texts_in-text_items ns)

  each_test : (p : Text → Data → Bool) (ms : Members) → (b : Bool) × (each_member (λ k w. if p k w then Yes else No) ms ≡ verdict b)
  each_test p no_members = (true, refl)
  each_test p (member k w ms) =
      let later = each_test p ms in
      (p k w && later.0, (λ i. both (if p k w then Yes else No) (later.1 i)) ∙ go (p k w) later.0)
    where
      go : (a b : Bool) → both (if a then Yes else No) (verdict b) ≡ verdict (a && b)
      go true b = refl
      go false true = refl
      go false false = refl

  -- ---- what is left of a map

  module _ (es : List Keyword) (are : AreEntries es) (ms : Members) where
    abbrev ss : List (Text × Judge)
    ss = judges_of es

    abbrev rest : (Text → Bool) → Verdict
    rest f = each_member (rest_says f ss) ms

    open_rest : (f : Text → Bool) → ((k : Text) → f k ≡ false) → Yes ≡ rest f
    open_rest f h = sym (each_yes ms) ∙ each_agree (λ k w. Yes) (rest_says f ss) (λ k w.
        ap (λ b. if b then Yes else No) (sym (ap (λ b. is_some (schema_named k ss) || not b) (h k) ∙ or-true _))) ms

    -- without choices
    closed_rest : (f : Text → Bool) → ((k : Text) → f k ≡ true)
        → additional_properties_say (is_covered c.patterns (option_map (read_data c) (properties_there es)) None)
        (option_map (read_data c) (Some (boolean false))) (object ms) ≡ rest f
    unfolding read_data
    closed_rest f h = each_agree _ (rest_says f ss) (λ k w. ap (λ b. if b then Yes else No)
        (covered_by es are k ∙ sym (ap (λ b. is_some (schema_named k ss) || not b) (h k) ∙ or-false _))) ms

    -- beside choices that fit
    unevaluated_rest : (x : Keywords) → x.properties ≡ properties_there es → x.additional ≡ None
        → (f : Text → Bool) → ((k : Text) → judged_by_list (option_map (read_data c) x.all) (object ms) (key k)
        || (judged_by_list (option_map (read_data c) x.one) (object ms) (key k) || false) ≡ not (f k))
        → unevaluated_properties_say true (beside c x (object ms)) (option_map (read_data c) (Some (boolean false))) (object ms) ≡ rest f
    unfolding read_data
    unevaluated_rest x properties additional f h = each_agree _ (rest_says f ss) (λ k w. ap (λ b. if b then Yes else No) (at k)) ms
      where
        at : (k : Text) → beside c x (object ms) k ≡ is_some (schema_named k ss) || not (f k)
        at k = rw (properties, additional) (λ i. (or-false _ ∙ covered_by es are k) i || h k i)

  module _ (es : List Keyword) (ns : List Text) (closed : Bool) (are : AreEntries es) where
    abbrev x : Parts → Keywords
    x ps = struct_keywords es ns ps closed

    abbrev Left : Parts → Members → Verdict
    Left ps ms =
        both (additional_properties_say (covered c (x ps)) (option_map (read_data c) (additional_there ps closed)) (object ms))
        (both (each_says all_of (option_map (read_data c) (all_there ps.all)) (object ms))
        (both (each_says one_of (option_map (read_data c) (one_there ps.one)) (object ms))
        (unevaluated_properties_say true (beside c (x ps) (object ms)) (option_map (read_data c) (unevaluated_there ps closed))
        (object ms))))

    abbrev Right : Parts → Members → Verdict
    Right ps ms = both (verdict (every_part (choices_in ps)))
        (each_member (rest_says (excludes_key closed (choices_in ps)) (judges_of es)) ms)

    none_left : (ms : Members) → Left (record { all = []; one = None }) ms ≡ Right (record { all = []; one = None }) ms
    unfolding all_there one_there closed_there
    none_left ms = both-yes _ ∙ go closed
      where
        go : (b : Bool) → additional_properties_say (is_covered c.patterns (option_map (read_data c) (properties_there es)) None)
            (option_map (read_data c) (closed_there b)) (object ms) ≡ each_member (rest_says (excludes_key b []) (judges_of es)) ms
        go false = open_rest es are ms (excludes_key false []) (λ k. refl)
        go true = closed_rest es are ms (excludes_key true []) (λ k. refl)

    -- beside choices
    module _ (ps : Parts) (ms : Members) (additional : additional_there ps closed ≡ None) (h : ChoicesSay ps (object ms)) where
      abbrev rest_at : Option Data → Verdict
      rest_at o = unevaluated_properties_say true (beside c (x ps) (object ms)) (option_map (read_data c) o) (object ms)

      abbrev rest_by : Bool → Verdict
      rest_by b = each_member (rest_says (excludes_key b (choices_in ps)) (judges_of es)) ms

      test_at : (b : Bool) → (u : Bool) × (rest_at (closed_there b) ≡ verdict u)
      unfolding closed_there read_data
      test_at false = (true, refl)
      test_at true = each_test (λ k w. beside c (x ps) (object ms) k) ms

      test_by : (b : Bool) → (u : Bool) × (rest_by b ≡ verdict u)
      test_by b = each_test (λ k w. is_some (schema_named k (judges_of es)) || not (excludes_key b (choices_in ps) k)) ms

      claimed : every_part (all_in ps.all) && every_part (one_in ps.one) ≡ true → (k : Text)
          → judged_by_list (option_map (read_data c) (all_there ps.all)) (object ms) (key k)
          || (judged_by_list (option_map (read_data c) (one_there ps.one)) (object ms) (key k) || false)
          ≡ not (not (is_key_of_match (choices_in ps) k) && true)
      claimed fit k =
          (λ i. all_judge ps.all (object ms) k h.0 (first (every_part (all_in ps.all)) (every_part (one_in ps.one)) fit) i
          || (or-false _ ∙ one_judge ps.one (object ms) k h.1) i)
          ∙ (sym (claims-append (all_in ps.all) (one_in ps.one) k)
          ∙ (sym (not-not (is_key_of_match (choices_in ps) k)) ∙ ap not (sym (and-true (not (is_key_of_match (choices_in ps) k))))))
        where
          first : (a b : Bool) → a && b ≡ true → a ≡ true
          first true b e = refl
          first false b e = absurd (true≢false (sym e))

      fit_at : every_part (all_in ps.all) && every_part (one_in ps.one) ≡ true → (b : Bool) → rest_at (closed_there b) ≡ rest_by b
      unfolding closed_there
      fit_at fit false = open_rest es are ms (excludes_key false (choices_in ps)) (λ k. and-false (not (is_key_of_match (choices_in ps) k)))
      fit_at fit true = unevaluated_rest es are ms (x ps) refl additional (excludes_key true (choices_in ps)) (claimed fit)

      both_rest : (b : Bool) → every_part (all_in ps.all) && every_part (one_in ps.one) ≡ b
          → both (verdict b) (rest_at (closed_there closed)) ≡ both (verdict b) (rest_by closed)
      both_rest true fit = fit_at fit closed
      both_rest false fit =
          let u = test_at closed in
          let w = test_by closed in
          ap (both No) u.1 ∙ (both-no u.0 ∙ (sym (both-no w.0) ∙ ap (both No) (sym w.1)))

      joined : (a b : Bool) (u : Verdict) → both (verdict a) (both (verdict b) u) ≡ both (verdict (a && b)) u
      joined true b u = refl
      joined false true Yes = refl
      joined false true No = refl
      joined false true Open = refl
      joined false false Yes = refl
      joined false false No = refl
      joined false false Open = refl

      some_left : unevaluated_there ps closed ≡ closed_there closed → Left ps ms ≡ Right ps ms
      some_left unevaluated =
          (λ i. both (additional_properties_say (covered c (x ps)) (option_map (read_data c) (additional i)) (object ms))
          (both (all_fits ps.all (object ms) h.0 i) (both (one_fit ps.one (object ms) h.1 i) (rest_at (unevaluated i)))))
          ∙ (joined (every_part (all_in ps.all)) (every_part (one_in ps.one)) (rest_at (closed_there closed))
          ∙ (both_rest (every_part (all_in ps.all) && every_part (one_in ps.one)) refl
          ∙ ap (λ b. both (verdict b) (rest_by closed)) (sym (every_part-append (all_in ps.all) (one_in ps.one)))))

    left : (ps : Parts) (ms : Members) → ChoicesSay ps (object ms) → Left ps ms ≡ Right ps ms
    left ps ms h = go ps.all ps.one h
      where
        go : (qs : List Part) (o : Option Part) → ChoicesSay (record { all = qs; one = o }) (object ms)
            → Left (record { all = qs; one = o }) ms ≡ Right (record { all = qs; one = o }) ms
        go [] None h = none_left ms
        go [] (Some p) h = some_left (record { all = []; one = Some p }) ms refl h refl
        go (q ∷ qs) o h = some_left (record { all = q ∷ qs; one = o }) ms refl h refl

    -- an object
    pub object_says : (ps : Parts) (ms : Members) → ChoicesSay ps (object ms)
        → (says c (look_up (x ps))).fits (object ms)
        ≡ both (verdict (have_all ns ms)) (both (each_member (named_says (judges_of es)) ms)
        (both (verdict (every_part (choices_in ps))) (each_member (rest_says (excludes_key closed (choices_in ps)) (judges_of es)) ms)))
    object_says ps ms h = says-fits c (x ps) on object_type (object ms)
        ∙ (λ i. both (required_part ns ms i) (both (named_part es are ms i) (left ps ms h i)))
