-- The references of a filled node of a template are those of its answers.
use Rattle.std.proofs.Common.{◌≡◌, List, [], ◌∷◌, ◌++◌, Bool, true, false, sym, ap, ◌∙◌, subst, Contains, append_assoc, append-nil}
use Rattle.schemars_meaning.proofs.Words.{All, AllByRecursion, codes, bytes_eq, if◌then◌else◌, All-nil, All-append, Data, Members, no_members, put, items_of, Text, put_all, IsSchema, AreNotes, NoSchemas, found_in_members, found_in_keywords, references, found_under, Template, Ask, finished, asked, list, members, nullable, noted, Templates, no_templates, template, asks_of, asks_in, left, left_in, keyed, filled, filled_in, AreAnswered, references_of, Place, OneSchema, SchemaList, SchemaOrList, SchemasByName, place_under, at_place, found_in, found_in_items, with_keywords, tagged, flattened-refers}
use Rattle.schemars_meaning.proofs.Parts.{first_all, left_all}
use Rattle.schemars_meaning.proofs.ReferencesKept.{Among, among_left, among_right, among_append, among_equal, among_turn, keywords-new, members-new, references-annotated, references-allow_null, in_list_of_schema, AreApart, AreNew, still_new, none_there}
use Rattle.schemars_meaning.proofs.Refers.{refers-put, named-put, tagged-refers}
use Rattle.schemars_meaning.proofs.Schemas.{AreSchemas, MakesSchema, made_schema}
use Rattle.schemars_meaning.proofs.SpreadMaps.{regroup, answered_left, Keeps}

-- ---- where the nodes of a template are

-- it asks nothing, so that it leaves each answer
abbrev pub TakesNone : Template → Type 0
TakesNone t = (ts : List Data) → left t ts ≡ ts

-- what the value of a keyword may be: under `$ref`, or else in a place of this kind
abbrev pub StandsAt : Bool → Place → Template → Type 0 → Type 0 → Type 0 → Type 0
StandsAt true p t Schema Schemas Named = ⊥
StandsAt false NoSchemas t Schema Schemas Named = TakesNone t
StandsAt false OneSchema t Schema Schemas Named = Schema
StandsAt false SchemaList t Schema Schemas Named = Schemas
StandsAt false SchemaOrList t Schema Schemas Named = MakesSchema t × Schema
StandsAt false SchemasByName t Schema Schemas Named = Named

-- Where Q holds, each name is there once, and what is put together keeps the references of answers; elsewhere one direction alone is
-- shown.
module _ (Q : Type 0) (Answers : Ask → Data → Type 0) where
  -- read as a schema, as a list of schemas, as schemas by name; finished JSON has no references there, and keys are all different
  abbrev mutual
    pub AsSchema : Template → Type 0
    AsSchema (finished d) = references d ≡ []
    AsSchema (asked a) = Unit {0}
    AsSchema (list es) = ⊥
    AsSchema (members ks es) = AreAtKeys es ks × AreApart ks
    AsSchema (nullable t) = AsSchema t
    AsSchema (noted notes t) = AreNotes notes × AsSchema t
    AsSchema (with_keywords t u) = AsSchema t × AsSchema u × (Q → Keeps Answers (with_keywords t u))
    AsSchema (tagged tag name closed t) = AsSchema t × (Q → Keeps Answers (tagged tag name closed t))

    pub AsList : Template → Type 0
    AsList (finished d) = (found_in d).in_list ≡ []
    AsList (asked a) = ⊥
    AsList (list es) = AreItems es
    AsList (members ks es) = ⊥
    AsList (nullable t) = ⊥
    AsList (noted notes t) = ⊥
    AsList (with_keywords t u) = ⊥
    AsList (tagged tag name closed t) = ⊥

    pub AsNamed : Template → Type 0
    AsNamed (finished d) = (found_in d).by_name ≡ []
    AsNamed (asked a) = ⊥
    AsNamed (list es) = ⊥
    AsNamed (members ks es) = AreNamed es ks × (Q → AreApart ks)
    AsNamed (nullable t) = ⊥
    AsNamed (noted notes t) = ⊥
    AsNamed (with_keywords t u) = ⊥
    AsNamed (tagged tag name closed t) = ⊥

    pub AreItems : Templates → Type 0
    AreItems no_templates = Unit {0}
    AreItems (template t es) = AsSchema t × AreItems es

    pub AreNamed : Templates → List Text → Type 0
    AreNamed no_templates ks = Unit {0}
    AreNamed (template t es) [] = ⊥
    AreNamed (template t es) (k ∷ ks) = AsSchema t × AreNamed es ks

    pub AreAtKeys : Templates → List Text → Type 0
    AreAtKeys no_templates ks = Unit {0}
    AreAtKeys (template t es) [] = ⊥
    AreAtKeys (template t es) (k ∷ ks) =
        StandsAt (bytes_eq k (codes "$ref")) (place_under k) t (AsSchema t) (AsList t) (AsNamed t) × AreAtKeys es ks

  -- ---- each reference of a filled template is an answer's

  module _ (P : Data → Type 0) where
    -- an answer
    abbrev IsGood : Data → Type 0
    IsGood d = IsSchema d × All P (references d)

    abbrev AreGood : List Data → Type 0
    AreGood = AllByRecursion IsGood

    none : All P []
    none = All-nil P

    schemas : (ts : List Data) → AreGood ts → AreSchemas ts
    schemas [] h = tt
    schemas (t ∷ ts) h = (h.0.0, schemas ts h.1)

    at_items : (t : Template) (ts : List Data) → AreGood ts → MakesSchema t → All P (references (filled t ts))
        → All P (references (filled t ts) ++ (found_in (filled t ts)).in_list)
    at_items t ts h made all =
        let s = filled t ts in
        subst (All P) (sym (ap (λ xs. references s ++ xs) (in_list_of_schema s (made_schema t ts (schemas ts h) made))
        ∙ append-nil (references s))) all

    refers_at : (b : Bool) (p : Place) (t : Template) (ts : List Data) (Schema Schemas Named : Type 0) → AreGood ts
        → (Schema → All P (references (filled t ts))) → (Schemas → All P (found_in (filled t ts)).in_list)
        → (Named → All P (found_in (filled t ts)).by_name) → StandsAt b p t Schema Schemas Named
        → All P (if b then filled t ts ∷ [] else at_place p (found_in (filled t ts)))
    refers_at true p t ts Schema Schemas Named h f g n is = absurd is
    refers_at false NoSchemas t ts Schema Schemas Named h f g n is = none
    refers_at false OneSchema t ts Schema Schemas Named h f g n is = f is
    refers_at false SchemaList t ts Schema Schemas Named h f g n is = g is
    refers_at false SchemaOrList t ts Schema Schemas Named h f g n is = at_items t ts h is.0 (f is.1)
    refers_at false SchemasByName t ts Schema Schemas Named h f g n is = n is

    mutual
      unfolding found_in

      pub refers_schema : (t : Template) (ts : List Data) → AreGood ts → AsSchema t → All P (references (filled t ts))
      refers_schema (finished d) ts h is = subst (All P) (sym is) none
      refers_schema (asked a) ts h is = (first_all IsGood (tt, none) ts h).1
      refers_schema (list es) ts h is = absurd is
      refers_schema (members ks es) ts h is = refers_keys es ks ts no_members h is.0 none
      refers_schema (nullable t) ts h is = subst (All P) (sym (references-allow_null (filled t ts))) (refers_schema t ts h is)
      refers_schema (noted notes t) ts h is =
          subst (All P) (sym (references-annotated notes (filled t ts) is.0)) (refers_schema t ts h is.1)
      refers_schema (with_keywords t u) ts h is =
          flattened-refers P (filled t ts) (filled u (left t ts)) (refers_schema t ts h is.0)
          (refers_schema u (left t ts) (left_all IsGood t ts h) is.1)
      refers_schema (tagged tag name closed t) ts h is = tagged-refers P tag name closed (filled t ts) (refers_schema t ts h is.0)

      refers_list : (t : Template) (ts : List Data) → AreGood ts → AsList t → All P (found_in (filled t ts)).in_list
      refers_list (finished d) ts h is = subst (All P) (sym is) none
      refers_list (asked a) ts h is = absurd is
      refers_list (list es) ts h is = refers_items es ts h is
      refers_list (members ks es) ts h is = absurd is
      refers_list (nullable t) ts h is = absurd is
      refers_list (noted notes t) ts h is = absurd is
      refers_list (with_keywords t u) ts h is = absurd is
      refers_list (tagged tag name closed t) ts h is = absurd is

      refers_named : (t : Template) (ts : List Data) → AreGood ts → AsNamed t → All P (found_in (filled t ts)).by_name
      refers_named (finished d) ts h is = subst (All P) (sym is) none
      refers_named (asked a) ts h is = absurd is
      refers_named (list es) ts h is = absurd is
      refers_named (members ks es) ts h is = refers_names es ks ts no_members h is.0 none
      refers_named (nullable t) ts h is = absurd is
      refers_named (noted notes t) ts h is = absurd is
      refers_named (with_keywords t u) ts h is = absurd is
      refers_named (tagged tag name closed t) ts h is = absurd is

      refers_items : (es : Templates) (ts : List Data) → AreGood ts → AreItems es → All P (found_in_items (items_of (filled_in es ts)))
      refers_items no_templates ts h is = none
      refers_items (template t es) ts h is =
          All-append P (references (filled t ts)) (found_in_items (items_of (filled_in es (left t ts)))) (refers_schema t ts h is.0)
          (refers_items es (left t ts) (left_all IsGood t ts h) is.1)

      refers_names : (es : Templates) (ks : List Text) (ts : List Data) (ms : Members) → AreGood ts → AreNamed es ks
          → All P (found_in_members ms) → All P (found_in_members (put_all (keyed ks (filled_in es ts)) ms))
      refers_names no_templates [] ts ms h is all = all
      refers_names no_templates (k ∷ ks) ts ms h is all = all
      refers_names (template t es) [] ts ms h is all = absurd is
      refers_names (template t es) (k ∷ ks) ts ms h is all =
          refers_names es ks (left t ts) (put k (filled t ts) ms) (left_all IsGood t ts h) is.1
          (named-put P k (filled t ts) ms (refers_schema t ts h is.0) all)

      refers_keys : (es : Templates) (ks : List Text) (ts : List Data) (ms : Members) → AreGood ts → AreAtKeys es ks
          → All P (found_in_keywords ms) → All P (found_in_keywords (put_all (keyed ks (filled_in es ts)) ms))
      refers_keys no_templates [] ts ms h is all = all
      refers_keys no_templates (k ∷ ks) ts ms h is all = all
      refers_keys (template t es) [] ts ms h is all = absurd is
      refers_keys (template t es) (k ∷ ks) ts ms h is all =
          refers_keys es ks (left t ts) (put k (filled t ts) ms) (left_all IsGood t ts h) is.1
          (refers-put P k (filled t ts) ms (refers_at (bytes_eq k (codes "$ref")) (place_under k) t ts (AsSchema t) (AsList t) (AsNamed t) h
          (refers_schema t ts h) (refers_list t ts h) (refers_named t ts h) is.0) all)

  -- ---- each reference of an answer is one of the filled template's

  module _ (q : Q) where
    Answered : List Ask → List Data → Type 0
    Answered = AreAnswered Answers

    -- what is found in the node, with the references of the answers that are left
    abbrev Kept : List Data → Template → List Data → Type 0
    Kept found t ts = Among (references_of ts) (found ++ references_of (left t ts))

    kept_at : (b : Bool) (p : Place) (t : Template) (ts : List Data) (Schema Schemas Named : Type 0)
        → (Schema → Kept (references (filled t ts)) t ts) → (Schemas → Kept (found_in (filled t ts)).in_list t ts)
        → (Named → Kept (found_in (filled t ts)).by_name t ts) → StandsAt b p t Schema Schemas Named
        → Kept (if b then filled t ts ∷ [] else at_place p (found_in (filled t ts))) t ts
    kept_at true p t ts Schema Schemas Named f g n is = absurd is
    kept_at false NoSchemas t ts Schema Schemas Named f g n is =
        among_equal (references_of ts) (references_of (left t ts)) (ap references_of (sym (is ts)))
    kept_at false OneSchema t ts Schema Schemas Named f g n is = f is
    kept_at false SchemaList t ts Schema Schemas Named f g n is = g is
    kept_at false SchemaOrList t ts Schema Schemas Named f g n is = λ x h.
        let own = references (filled t ts) in
        let more = (found_in (filled t ts)).in_list in
        among_append own (references_of (left t ts)) (own ++ more) (references_of (left t ts)) (among_left own more) (λ y i. i) x
        (f is.1 x h)
    kept_at false SchemasByName t ts Schema Schemas Named f g n is = n is

    mutual
      unfolding found_in

      pub kept_schema : (t : Template) (rest : List Ask) (ts : List Data) → AreAnswered Answers (asks_of t ++ rest) ts → AsSchema t
          → Kept (references (filled t ts)) t ts
      kept_schema (finished d) rest ts h is = among_right (references d) (references_of ts)
      kept_schema (asked a) rest [] h is = absurd h
      kept_schema (asked a) rest (t ∷ ts) h is = λ x i. i
      kept_schema (list es) rest ts h is = absurd is
      kept_schema (members ks es) rest ts h is = kept_keys es ks rest ts no_members h is.0 is.1 (none_there ks)
      kept_schema (nullable t) rest ts h is = rw (references-allow_null (filled t ts)) (kept_schema t rest ts h is)
      kept_schema (noted notes t) rest ts h is = rw (references-annotated notes (filled t ts) is.0) (kept_schema t rest ts h is.1)
      kept_schema (with_keywords t u) rest ts h is = is.2 q rest ts h
      kept_schema (tagged tag name closed t) rest ts h is = is.1 q rest ts h

      kept_list : (t : Template) (rest : List Ask) (ts : List Data) → AreAnswered Answers (asks_of t ++ rest) ts → AsList t
          → Kept (found_in (filled t ts)).in_list t ts
      kept_list (finished d) rest ts h is = among_right (found_in d).in_list (references_of ts)
      kept_list (asked a) rest ts h is = absurd is
      kept_list (list es) rest ts h is = kept_items es rest ts h is
      kept_list (members ks es) rest ts h is = absurd is
      kept_list (nullable t) rest ts h is = absurd is
      kept_list (noted notes t) rest ts h is = absurd is
      kept_list (with_keywords t u) rest ts h is = absurd is
      kept_list (tagged tag name closed t) rest ts h is = absurd is

      kept_named : (t : Template) (rest : List Ask) (ts : List Data) → AreAnswered Answers (asks_of t ++ rest) ts → AsNamed t
          → Kept (found_in (filled t ts)).by_name t ts
      kept_named (finished d) rest ts h is = among_right (found_in d).by_name (references_of ts)
      kept_named (asked a) rest ts h is = absurd is
      kept_named (list es) rest ts h is = absurd is
      kept_named (members ks es) rest ts h is = kept_names es ks rest ts no_members h is.0 (is.1 q) (none_there ks)
      kept_named (nullable t) rest ts h is = absurd is
      kept_named (noted notes t) rest ts h is = absurd is
      kept_named (with_keywords t u) rest ts h is = absurd is
      kept_named (tagged tag name closed t) rest ts h is = absurd is

      kept_items : (es : Templates) (rest : List Ask) (ts : List Data) → AreAnswered Answers (asks_in es ++ rest) ts → AreItems es
          → Among (references_of ts) (found_in_items (items_of (filled_in es ts)) ++ references_of (left_in es ts))
      kept_items no_templates rest ts h is = λ x i. i
      kept_items (template t es) rest ts h is = λ x i.
          let answers = regroup Answers (asks_of t) (asks_in es) rest ts h in
          let here = references (filled t ts) in
          let later = found_in_items (items_of (filled_in es (left t ts))) in
          let after = references_of (left_in es (left t ts)) in
          subst (λ zs. Contains zs x) (sym (append_assoc here later after))
          (among_append here (references_of (left t ts)) here (later ++ after) (λ y j. j)
          (kept_items es rest (left t ts) (answered_left Answers t (asks_in es ++ rest) ts answers) is.1) x
          (kept_schema t (asks_in es ++ rest) ts answers is.0 x i))

      kept_names : (es : Templates) (ks : List Text) (rest : List Ask) (ts : List Data) (ms : Members)
          → AreAnswered Answers (asks_in es ++ rest) ts → AreNamed es ks → AreApart ks → AreNew ks ms
          → Among (found_in_members ms ++ references_of ts)
          (found_in_members (put_all (keyed ks (filled_in es ts)) ms) ++ references_of (left_in es ts))
      kept_names no_templates [] rest ts ms h is other new = λ x i. i
      kept_names no_templates (k ∷ ks) rest ts ms h is other new = λ x i. i
      kept_names (template t es) [] rest ts ms h is other new = absurd is
      kept_names (template t es) (k ∷ ks) rest ts ms h is other new = λ x i.
          let answers = regroup Answers (asks_of t) (asks_in es) rest ts h in
          let s = filled t ts in
          kept_names es ks rest (left t ts) (put k s ms) (answered_left Answers t (asks_in es ++ rest) ts answers) is.1 other.1
          (still_new k s ks ms other.0 new.1) x
          (among_turn (found_in_members (put k s ms)) (references s) (found_in_members ms) (references_of (left t ts)) (references_of ts)
          (members-new k s ms new.0) (kept_schema t (asks_in es ++ rest) ts answers is.0) x i)

      kept_keys : (es : Templates) (ks : List Text) (rest : List Ask) (ts : List Data) (ms : Members)
          → AreAnswered Answers (asks_in es ++ rest) ts → AreAtKeys es ks → AreApart ks → AreNew ks ms
          → Among (found_in_keywords ms ++ references_of ts)
          (found_in_keywords (put_all (keyed ks (filled_in es ts)) ms) ++ references_of (left_in es ts))
      kept_keys no_templates [] rest ts ms h is other new = λ x i. i
      kept_keys no_templates (k ∷ ks) rest ts ms h is other new = λ x i. i
      kept_keys (template t es) [] rest ts ms h is other new = absurd is
      kept_keys (template t es) (k ∷ ks) rest ts ms h is other new = λ x i.
          let before = asks_in es ++ rest in
          let answers = regroup Answers (asks_of t) (asks_in es) rest ts h in
          let s = filled t ts in
          kept_keys es ks rest (left t ts) (put k s ms) (answered_left Answers t before ts answers) is.1 other.1
          (still_new k s ks ms other.0 new.1) x
          (among_turn (found_in_keywords (put k s ms)) (found_under k s) (found_in_keywords ms) (references_of (left t ts))
          (references_of ts) (keywords-new k s ms new.0)
          (kept_at (bytes_eq k (codes "$ref")) (place_under k) t ts (AsSchema t) (AsList t) (AsNamed t)
          (kept_schema t before ts answers) (kept_list t before ts answers) (kept_named t before ts answers) is.0) x i)
