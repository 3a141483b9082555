-- What the keywords for items, for members and for keys say and judge.
use Rattle.std.proofs.Common.{◌≡◌, ℕ, suc, List, [], ◌∷◌, length, Bool, true, false, Option, Some, None, refl, sym, ap, ◌∙◌, arith}
use Rattle.std.proofs.Math.Bool.{or-false}
use Rattle.schemars_validate.proofs.Words.{nat_tests, ◌&&◌, ◌||◌, nat_lt, is_some, option_map, if◌then◌else◌, codes, Data, Items, no_items, item, items_len, Text, Verdict, all_of, Context, Judge, Part, key, position, Raw, schema_named, matches_some, is_covered, named_in, contains_says, judged_by_position, judged_by_items, judged_by_contains, judged_itself, has_schema, read_data, schema_at, schemas_in, schemas_by_name, schema_where_read, judge_at, named_judges_in, judges_of, parts_of, marked, at_keys, at_positions, is_placed, is_named, is_matched, is_taken, by_keys, inside, names_by, reads, items_by, members_by, first_schemas, other_schema, items_or_none}
use Rattle.schemars_validate.proofs.Readings.{read_items_say, read_members_say, read_names, read_schema, read_listed, list_no_schema, named_in-read, named-judges, matched-judges}
use Rattle.schemars_validate.proofs.MarkedAlike.{marked_same, then_marked}

some_judge : (c : Context) (x : Option Data) → is_some x ≡ is_some (judge_at c x)
some_judge c None = refl
some_judge c (Some d) = refl

judges_length : (c : Context) (ds : Items) → length (judges_of c ds) ≡ items_len ds
judges_length c no_items = refl
judges_length c (item d ds) = ap suc (judges_length c ds)

-- whether the keyword judges all parts that are left
pub has_read : (r : Bool) (c : Context) (x : Option Data) → (r && has_schema (option_map (read_data c) x)) ≡ is_some (schema_where_read r x)
has_read true c x = ap is_some (read_schema c x) ∙ sym (some_judge c (schema_at x))
has_read false c x = refl

members_judged : (c : Context) (raw : Raw) (k : Text)
    → is_taken c.patterns (schemas_by_name (raw (codes "properties"))) (schemas_by_name (raw (codes "patternProperties")))
    (schema_at (raw (codes "additionalProperties"))) k
    ≡ (is_covered c.patterns (reads c raw (codes "properties")) (reads c raw (codes "patternProperties")) k
    || has_schema (reads c raw (codes "additionalProperties")))
members_judged c raw k = λ i. (names i || patterns i) || rest i
  where
    names : is_named (schemas_by_name (raw (codes "properties"))) k ≡ is_some (schema_named k (named_in (reads c raw (codes "properties"))))
    names =
        sym (named-judges c k (schemas_by_name (raw (codes "properties"))))
        ∙ ap (λ ss. is_some (schema_named k ss)) (sym (named_in-read c (raw (codes "properties"))))

    patterns : is_matched c.patterns (schemas_by_name (raw (codes "patternProperties"))) k
        ≡ matches_some c.patterns (named_in (reads c raw (codes "patternProperties"))) k
    patterns =
        sym (matched-judges c.patterns c k (schemas_by_name (raw (codes "patternProperties"))))
        ∙ ap (λ ss. matches_some c.patterns ss k) (sym (named_in-read c (raw (codes "patternProperties"))))

    rest : is_some (schema_at (raw (codes "additionalProperties"))) ≡ has_schema (reads c raw (codes "additionalProperties"))
    rest = some_judge c (schema_at (raw (codes "additionalProperties"))) ∙ ap is_some (sym (read_schema c (raw (codes "additionalProperties"))))

-- at the position of a schema of a list, or past the list
abbrev listed_at : Option Items → Bool → ℕ → Bool
listed_at y past n = elim y [ None ↦ false | Some ds ↦ nat_lt n (items_len ds) || past ]

abbrev before_all : Option (List Judge) → Bool → ℕ → Bool
before_all o past n = elim o [ None ↦ false | Some ss ↦ nat_lt n (length ss) || past ]

position_judged : (c : Context) (x : Option Data) (past : Bool) (n : ℕ)
    → judged_by_position (option_map (read_data c) x) past n ≡ listed_at (schemas_in x) past n
position_judged c x past n =
    ap (λ o. before_all o past n) (read_listed c x) ∙ found (schemas_in x)
  where
    found : (y : Option Items) → before_all (option_map (judges_of c) y) past n ≡ listed_at y past n
    found None = refl
    found (Some ds) = ap (λ l. nat_lt n l || past) (judges_length c ds)

nothing_before : (n : ℕ) → nat_lt n 0 ≡ false
nothing_before n = grind (arith, nat_tests)

items_judged : (r : Bool) (c : Context) (raw : Raw) (n : ℕ) → is_placed (first_schemas r raw) (other_schema r raw) n
    ≡ judged_by_items r (reads c raw (codes "prefixItems")) (reads c raw (codes "items")) (reads c raw (codes "additionalItems")) n
items_judged true c raw n =
    λ i. (first (schemas_in (raw (codes "prefixItems"))) ∙ sym (position_judged c (raw (codes "prefixItems")) false n)) i
    || sym (has_read true c (raw (codes "items"))) i
  where
    first : (y : Option Items) → nat_lt n (items_len (items_or_none y)) ≡ listed_at y false n
    first None = nothing_before n
    first (Some ds) = sym (or-false (nat_lt n (items_len ds)))
items_judged false c raw n =
    go (schemas_in x) refl
    ∙ ap (λ b. has_schema (option_map (read_data c) x) || b)
    (sym (position_judged c x (has_schema (option_map (read_data c) a)) n))
  where
    x : Option Data
    x = raw (codes "items")

    a : Option Data
    a = raw (codes "additionalItems")

    go : (ss : Option Items) → schemas_in x ≡ ss
        → (nat_lt n (items_len (items_or_none ss)) || is_some (schema_at (if is_some ss then a else x)))
        ≡ (has_schema (option_map (read_data c) x) || listed_at ss (has_schema (option_map (read_data c) a)) n)
    go None is =
        ap (λ b. b || is_some (schema_at x)) (nothing_before n)
        ∙ (sym (has_read true c x) ∙ sym (or-false (has_schema (option_map (read_data c) x))))
    go (Some ds) is =
        ap (λ b. nat_lt n (items_len ds) || b) (sym (has_read true c a))
        ∙ sym (ap (λ b. b || (nat_lt n (items_len ds) || has_schema (option_map (read_data c) a)))
        (has_read true c x ∙ ap is_some (list_no_schema x ds is)))

-- by items, by `contains` and by members
abbrev pub placed_by : Context → Raw → Part → Bool
placed_by c raw = at_positions (is_placed (first_schemas c.dialect.reads_prefix_items raw) (other_schema c.dialect.reads_prefix_items raw))

abbrev pub contained_by : Context → Raw → Data → Part → Bool
contained_by c raw v = at_positions (judged_by_contains c.dialect.reads_prefix_items (reads c raw (codes "contains")) v)

abbrev pub taken_by_name : Context → Raw → Part → Bool
taken_by_name c raw =
    at_keys (is_taken c.patterns (schemas_by_name (raw (codes "properties"))) (schemas_by_name (raw (codes "patternProperties")))
    (schema_at (raw (codes "additionalProperties"))))

itself_judged : (c : Context) (raw : Raw) (v : Data) (p : Part)
    → ((placed_by c raw p || contained_by c raw v p) || taken_by_name c raw p) ≡ judged_itself c (reads c raw) v p
itself_judged c raw v (key k) = members_judged c raw k
itself_judged c raw v (position n) =
    or-false (placed_by c raw (position n) || contained_by c raw v (position n))
    ∙ ap (λ b. b || contained_by c raw v (position n)) (items_judged c.dialect.reads_prefix_items c raw n)

pub inside_marks : (c : Context) (raw : Raw) (v : Data) (m0 m1 m2 m3 : List Bool) → m1 ≡ marked (placed_by c raw) (parts_of v) m0
    → m2 ≡ marked (contained_by c raw v) (parts_of v) m1 → m3 ≡ marked (taken_by_name c raw) (parts_of v) m2
    → m3 ≡ marked (judged_itself c (reads c raw) v) (parts_of v) m0
inside_marks c raw v m0 m1 m2 m3 e1 e2 e3 =
    let ps = parts_of v in
    let two = then_marked (placed_by c raw) (contained_by c raw v) ps m0 m1 m2 e1 e2 in
    then_marked (λ (p : Part). placed_by c raw p || contained_by c raw v p) (taken_by_name c raw) ps m0 m2 m3 two e3
    ∙ marked_same _ _ (itself_judged c raw v) ps m0

pub inside_says : (c : Context) (raw : Raw) (v : Data) (items contains keys names members : Verdict)
    → items ≡ items_by (judges_of c (first_schemas c.dialect.reads_prefix_items raw)) (judge_at c (other_schema c.dialect.reads_prefix_items raw)) v
    → contains ≡ contains_says c.dialect.reads_const c.dialect.reads_unevaluated (reads c raw (codes "contains")) (raw (codes "minContains"))
    (raw (codes "maxContains")) v
    → keys ≡ all_of (by_keys c.dialect raw v)
    → names ≡ names_by (judge_at c (schema_where_read c.dialect.reads_const (raw (codes "propertyNames")))) v
    → members ≡ members_by c.patterns (named_judges_in c (schemas_by_name (raw (codes "properties"))))
    (named_judges_in c (schemas_by_name (raw (codes "patternProperties")))) (judge_at c (schema_at (raw (codes "additionalProperties")))) v
    → all_of (items ∷ contains ∷ keys ∷ names ∷ members ∷ []) ≡ all_of (inside c raw v)
inside_says c raw v items contains keys names members e1 e2 e3 e4 e5 =
    let f1 = e1 ∙ read_items_say c.dialect.reads_prefix_items c raw v in
    let f4 = e4 ∙ read_names c.dialect.reads_const c (raw (codes "propertyNames")) v in
    let f5 = e5 ∙ read_members_say c.patterns c (raw (codes "properties")) (raw (codes "patternProperties")) (raw (codes "additionalProperties")) v in
    λ i. all_of (f1 i ∷ e2 i ∷ e3 i ∷ f4 i ∷ f5 i ∷ [])
