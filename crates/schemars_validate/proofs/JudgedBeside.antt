-- What all keywords say and judge, but those for the parts that are left.
use Rattle.std.proofs.Common.{◌≡◌, List, [], ◌∷◌, Bool, true, false, Option, Some, None, refl, sym, ap, ◌∙◌}
use Rattle.schemars_validate.proofs.Words.{◌||◌, is_some, option_map, option_and_then, if◌then◌else◌, map, codes, Data, Items, Members, as_object, Text, Verdict, Yes, opposite, all_of, any_of, one_of, reads_dependencies, Context, Judge, Part, Raw, where_some, reference_says, condition_says, dependencies_say, beside_members, judged_by_some, judged_by_list, judged_by_reference, judged_itself, judged_beside, judged_by_condition, judged_by_dependents, read_data, schema_at, schemas_in, schemas_by_name, schemas_where_read, judge_at, judges_in, named_judges, named_judges_in, judges_of, judges_among_in, parts_of, marked, judged_beside_members, by_itself, inside, besides, dependents_by, reads}
use Rattle.schemars_validate.proofs.Readings.{read_each, read_one, read_among, all_among, read_named, read_listed}
use Rattle.schemars_validate.proofs.MarkedAlike.{marked_same, marked_none, then_marked, no_one}

-- what `if`, and `then` or `else`, judge
abbrev pub condition_judged : Context → Raw → Data → Part → Bool
condition_judged c raw v p =
    judged_by_condition c.dialect.reads_const (reads c raw (codes "if")) (reads c raw (codes "then")) (reads c raw (codes "else")) v p

list_judged : (c : Context) (x : Option Data) (v : Data) (p : Part)
    → judged_by_some (judges_in c (schemas_in x)) v p ≡ judged_by_list (option_map (read_data c) x) v p
list_judged c x v p =
    found (schemas_in x) ∙ sym (ap (λ o. elim o [ None ↦ false | Some ss ↦ judged_by_some ss v p ]) (read_listed c x))
  where
    found : (y : Option Items) → judged_by_some (judges_in c y) v p
        ≡ elim (option_map (judges_of c) y) [ None ↦ false | Some ss ↦ judged_by_some ss v p ]
    found None = refl
    found (Some ds) = refl

in_order : (a b d e f g h : Bool) → ((((((a || b) || d) || e) || f) || g) || h) ≡ (a || (b || (d || (e || (f || (g || h))))))
in_order true b d e f g h = refl
in_order false true d e f g h = refl
in_order false false true e f g h = refl
in_order false false false true f g h = refl
in_order false false false false true g h = refl
in_order false false false false false true h = refl
in_order false false false false false false h = refl

dependents_judged : (r : Bool) (c : Context) (x : Option Data) (v : Data) (p : Part)
    → judged_beside_members (judges_among_in c (schemas_where_read r x)) v p ≡ judged_by_dependents r (option_map (read_data c) x) v p
dependents_judged true c x v p =
    ap (λ ss. judged_beside_members ss v p) (all_among true c x) ∙ (found (schemas_by_name x)
    ∙ sym (ap (λ o. elim o [ None ↦ false | Some ss ↦ judged_beside_members ss v p ]) (read_named c x)))
  where
    found : (y : Option Members) → judged_beside_members (named_judges_in c y) v p
        ≡ elim (option_map (named_judges c) y) [ None ↦ false | Some ss ↦ judged_beside_members ss v p ]
    found None = sym (no_one (as_object v))
    found (Some ms) = refl
dependents_judged false c x v p =
    sym (no_one (as_object v)) ∙ no_one (option_and_then (λ r. r.named) (option_map (read_data c) x))

pub no_beside_marks : (v : Data) (ps : List Part) (bs : List Bool) → bs ≡ marked (judged_beside_members [] v) ps bs
no_beside_marks v ps bs = sym (marked_same _ _ (λ p. sym (no_one (as_object v))) ps bs ∙ marked_none ps bs)

pub no_object_marks : (ss : List (Text × Judge)) (v : Data) (ps : List Part) (bs : List Bool) → None ≡ as_object v
    → bs ≡ marked (judged_beside_members ss v) ps bs
no_object_marks ss v ps bs none =
    sym (marked_same _ (λ p. false) (λ p. sym (ap (λ o. elim o [ None ↦ false | Some ms ↦ judged_by_some (beside_members ss ms) v p ]) none))
    ps bs ∙ marked_none ps bs)

-- by its own keywords, by each list, by the condition, by schemas beside members and by the reference
beside_judged : (c : Context) (raw : Raw) (v : Data) (p : Part)
    → ((((((judged_itself c (reads c raw) v p
    || judged_by_some (judges_in c (schemas_in (raw (codes "allOf")))) v p)
    || judged_by_some (judges_in c (schemas_in (raw (codes "anyOf")))) v p)
    || judged_by_some (judges_in c (schemas_in (raw (codes "oneOf")))) v p)
    || condition_judged c raw v p)
    || judged_beside_members (judges_among_in c (schemas_where_read c.dialect.reads_unevaluated (raw (codes "dependentSchemas")))) v p)
    || judged_by_reference c.follow (raw (codes "$ref")) v p)
    ≡ judged_beside c raw (reads c raw) v p
beside_judged c raw v p =
    in_order
    (judged_itself c (reads c raw) v p)
    (judged_by_some (judges_in c (schemas_in (raw (codes "allOf")))) v p)
    (judged_by_some (judges_in c (schemas_in (raw (codes "anyOf")))) v p)
    (judged_by_some (judges_in c (schemas_in (raw (codes "oneOf")))) v p)
    (condition_judged c raw v p)
    (judged_beside_members (judges_among_in c (schemas_where_read c.dialect.reads_unevaluated (raw (codes "dependentSchemas")))) v p)
    (judged_by_reference c.follow (raw (codes "$ref")) v p)
    ∙ (λ i. judged_itself c (reads c raw) v p || (list_judged c (raw (codes "allOf")) v p i || (list_judged c (raw (codes "anyOf")) v p i
    || (list_judged c (raw (codes "oneOf")) v p i || (condition_judged c raw v p
    || (dependents_judged c.dialect.reads_unevaluated c (raw (codes "dependentSchemas")) v p i
    || judged_by_reference c.follow (raw (codes "$ref")) v p))))))

pub beside_marks : (c : Context) (raw : Raw) (v : Data) (m0 m1 m2 m3 m4 m5 m6 m7 : List Bool)
    → m1 ≡ marked (judged_itself c (reads c raw) v) (parts_of v) m0
    → m2 ≡ marked (judged_by_some (judges_in c (schemas_in (raw (codes "allOf")))) v) (parts_of v) m1
    → m3 ≡ marked (judged_by_some (judges_in c (schemas_in (raw (codes "anyOf")))) v) (parts_of v) m2
    → m4 ≡ marked (judged_by_some (judges_in c (schemas_in (raw (codes "oneOf")))) v) (parts_of v) m3
    → m5 ≡ marked (condition_judged c raw v) (parts_of v) m4
    → m6 ≡ marked (judged_beside_members
    (judges_among_in c (schemas_where_read c.dialect.reads_unevaluated (raw (codes "dependentSchemas")))) v) (parts_of v) m5
    → m7 ≡ marked (judged_by_reference c.follow (raw (codes "$ref")) v) (parts_of v) m6
    → m7 ≡ marked (judged_beside c raw (reads c raw) v) (parts_of v) m0
beside_marks c raw v m0 m1 m2 m3 m4 m5 m6 m7 e1 e2 e3 e4 e5 e6 e7 =
    let ps = parts_of v in
    let f1 : Part → Bool = judged_itself c (reads c raw) v in
    let f2 : Part → Bool = judged_by_some (judges_in c (schemas_in (raw (codes "allOf")))) v in
    let f3 : Part → Bool = judged_by_some (judges_in c (schemas_in (raw (codes "anyOf")))) v in
    let f4 : Part → Bool = judged_by_some (judges_in c (schemas_in (raw (codes "oneOf")))) v in
    let f5 : Part → Bool = condition_judged c raw v in
    let f6 : Part → Bool =
    judged_beside_members (judges_among_in c (schemas_where_read c.dialect.reads_unevaluated (raw (codes "dependentSchemas")))) v in
    let f7 : Part → Bool = judged_by_reference c.follow (raw (codes "$ref")) v in
    let two = then_marked f1 f2 ps m0 m1 m2 e1 e2 in
    let three = then_marked (λ (p : Part). f1 p || f2 p) f3 ps m0 m2 m3 two e3 in
    let four = then_marked (λ (p : Part). (f1 p || f2 p) || f3 p) f4 ps m0 m3 m4 three e4 in
    let five = then_marked (λ (p : Part). ((f1 p || f2 p) || f3 p) || f4 p) f5 ps m0 m4 m5 four e5 in
    let six = then_marked (λ (p : Part). (((f1 p || f2 p) || f3 p) || f4 p) || f5 p) f6 ps m0 m5 m6 five e6 in
    let seven = then_marked (λ (p : Part). ((((f1 p || f2 p) || f3 p) || f4 p) || f5 p) || f6 p) f7 ps m0 m6 m7 six e7 in
    seven ∙ marked_same (λ (p : Part). (((((f1 p || f2 p) || f3 p) || f4 p) || f5 p) || f6 p) || f7 p) (judged_beside c raw (reads c raw) v)
    (beside_judged c raw v) ps m0

pub negated : (c : Context) (x : Option Data) (v : Data) (b : Bool) (says : Verdict) → b ≡ is_some x
    → says ≡ where_some (judge_at c x) (λ s. s.fits v)
    → (if b then opposite says else Yes) ≡ where_some (judge_at c x) (λ s. opposite (s.fits v))
negated c None v b says is said = rw is
negated c (Some d) v b says is said = rw is (ap opposite said)

pub beside_says : (c : Context) (raw : Raw) (v : Data) (reference itself within all any one not condition dependent dependencies : Verdict)
    → reference ≡ reference_says c.follow (raw (codes "$ref")) v
    → itself ≡ all_of (by_itself c.dialect c.patterns raw v)
    → within ≡ all_of (inside c raw v)
    → all ≡ where_some (schemas_in (raw (codes "allOf"))) (λ ds. all_of (map (λ s. s.fits v) (judges_of c ds)))
    → any ≡ where_some (schemas_in (raw (codes "anyOf"))) (λ ds. any_of (map (λ s. s.fits v) (judges_of c ds)))
    → one ≡ where_some (schemas_in (raw (codes "oneOf"))) (λ ds. one_of (map (λ s. s.fits v) (judges_of c ds)))
    → not ≡ where_some (judge_at c (schema_at (raw (codes "not")))) (λ s. opposite (s.fits v))
    → condition ≡ condition_says c.dialect.reads_const (reads c raw (codes "if")) (reads c raw (codes "then")) (reads c raw (codes "else")) v
    → dependent ≡ dependents_by (judges_among_in c (schemas_where_read c.dialect.reads_unevaluated (raw (codes "dependentSchemas")))) v
    → dependencies ≡ dependencies_say (reads_dependencies c.dialect) (raw (codes "dependencies")) (reads c raw (codes "dependencies")) v
    → all_of (reference ∷ itself ∷ within ∷ all ∷ any ∷ one ∷ not ∷ condition ∷ dependent ∷ dependencies ∷ []) ≡ all_of (besides c raw v)
beside_says c raw v reference itself within all any one not condition dependent dependencies e1 e2 e3 e4 e5 e6 e7 e8 e9 e10 =
    let f4 = e4 ∙ read_each all_of c (raw (codes "allOf")) v in
    let f5 = e5 ∙ read_each any_of c (raw (codes "anyOf")) v in
    let f6 = e6 ∙ read_each one_of c (raw (codes "oneOf")) v in
    let f7 = e7 ∙ read_one (λ s. opposite (s.fits v)) c (raw (codes "not")) in
    let f9 = e9 ∙ read_among c.dialect.reads_unevaluated c (raw (codes "dependentSchemas")) v in
    λ i. all_of (e1 i ∷ e2 i ∷ e3 i ∷ f4 i ∷ f5 i ∷ f6 i ∷ f7 i ∷ e8 i ∷ f9 i ∷ e10 i ∷ [])
