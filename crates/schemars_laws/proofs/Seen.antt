-- What an object says depends on one reading of what stands under each keyword: as a schema, as a list, or by name.
use Rattle.std.proofs.Common.{◌≡◌, ℕ, List, [], ◌∷◌, Option, Some, None, Bool, true, false, codes, option_map, refl, sym, ap, ◌∙◌}
use Rattle.schemars_laws.proofs.Words.{fun_ext, bytes_eq, if◌then◌else◌, ◌||◌, ◌&&◌, ◌++◌, option_and_then, as_str, Data, null, boolean, number, string, array, object, Text, Verdict, Yes, No, Open, all_of, any_of, one_of, Place, NoSchemas, OneSchema, SchemaList, SchemaOrList, SchemasByName, place_under, Dialect, reads_dependencies, Context, Raw, Readings, Reading, Judge, Part, key, position, Patterns, dependencies_say, unevaluated_items_say, items_say, properties_say, pattern_properties_say, additional_properties_say, each_says, not_says, reference_says, unevaluated_properties_say, is_covered, contains_says, property_names_say, condition_says, dependent_schemas_say, judged_itself, judges_rest, judged_by_items, judged_by_contains, judged_by, judged_by_reference, judged_beside, has_schema, judged_by_list, judged_by_schema, judged_by_condition, judged_by_dependents, branch_of, keywords, all_keywords, reference_alone}
use Rattle.schemars_laws.proofs.Keywords.{values_say, keys_say, schemas_say, before_say, joined_say, left_say, all_say, fits-all}

-- the place under a keyword whose schemas are read, whether a walk reaches them or not
abbrev pub place_read : Dialect → Text → Place
place_read d k =
    if bytes_eq k (codes "unevaluatedProperties") && d.reads_unevaluated then OneSchema
    else if bytes_eq k (codes "unevaluatedItems") && d.reads_unevaluated then OneSchema
    else if bytes_eq k (codes "dependentSchemas") && d.reads_unevaluated then SchemasByName
    else if bytes_eq k (codes "dependencies") && reads_dependencies d then SchemasByName
    else place_under k

-- that of `unevaluatedProperties` and of `unevaluatedItems`
abbrev pub place_unevaluated : Bool → Place
place_unevaluated reads = if reads then OneSchema else NoSchemas

-- that of `dependentSchemas` and of `dependencies`
abbrev pub place_dependents : Bool → Place
place_dependents reads = if reads then SchemasByName else NoSchemas

abbrev pub seen : Place → Reading → Reading
seen NoSchemas x = record { schema = None; listed = None; named = None; among = [] }
seen OneSchema x = record { schema = x.schema; listed = None; named = None; among = [] }
seen SchemaList x = record { schema = None; listed = x.listed; named = None; among = [] }
seen SchemaOrList x = record { schema = x.schema; listed = x.listed; named = None; among = [] }
seen SchemasByName x = record { schema = None; listed = None; named = x.named; among = x.among }

abbrev pub seen_under : Dialect → Readings → Readings
seen_under d read k = option_map (seen (place_read d k)) (read k)

pub judge_ext : (a b : Judge) → ((v : Data) → a.fits v ≡ b.fits v) → ((v : Data) (p : Part) → a.judges v p ≡ b.judges v p) → a ≡ b
judge_ext a b fit judged =
    ap (λ f. record { fits = f; judges = a.judges }) (fun_ext fit)
    ∙ ap (λ j. record { fits = b.fits; judges = j }) (fun_ext (λ v. fun_ext (judged v)))

items-seen : (b : Bool) (p i a : Option Reading) (v : Data)
    → items_say b (option_map (seen SchemaList) p) (option_map (seen SchemaOrList) i) (option_map (seen OneSchema) a) v
    ≡ items_say b p i a v
items-seen true None None a v = refl
items-seen true None (Some i) a v = refl
items-seen true (Some p) None a v = refl
items-seen true (Some p) (Some i) a v = refl
items-seen false p None a v = refl
items-seen false p (Some i) None v = refl
items-seen false p (Some i) (Some a) v = refl

contains-seen : (b reads : Bool) (o : Option Reading) (least most : Option Data) (v : Data)
    → contains_says b reads (option_map (seen OneSchema) o) least most v ≡ contains_says b reads o least most v
contains-seen b reads None least most v = refl
contains-seen b reads (Some x) least most v = refl

names-seen : (b : Bool) (o : Option Reading) (v : Data) → property_names_say b (option_map (seen OneSchema) o) v ≡ property_names_say b o v
names-seen b None v = refl
names-seen b (Some x) v = refl

properties-seen : (o : Option Reading) (v : Data) → properties_say (option_map (seen SchemasByName) o) v ≡ properties_say o v
properties-seen None v = refl
properties-seen (Some x) v = refl

pattern_properties-seen : (patterns : Patterns) (o : Option Reading) (v : Data)
    → pattern_properties_say patterns (option_map (seen SchemasByName) o) v ≡ pattern_properties_say patterns o v
pattern_properties-seen patterns None v = refl
pattern_properties-seen patterns (Some x) v = refl

covered-seen : (patterns : Patterns) (o p : Option Reading)
    → is_covered patterns (option_map (seen SchemasByName) o) (option_map (seen SchemasByName) p) ≡ is_covered patterns o p
covered-seen patterns None None = refl
covered-seen patterns None (Some p) = refl
covered-seen patterns (Some o) None = refl
covered-seen patterns (Some o) (Some p) = refl

additional-seen : (covered : Text → Bool) (o : Option Reading) (v : Data)
    → additional_properties_say covered (option_map (seen OneSchema) o) v ≡ additional_properties_say covered o v
additional-seen covered None v = refl
additional-seen covered (Some x) v = refl

unevaluated-seen : (b : Bool) (judged : Text → Bool) (o : Option Reading) (v : Data)
    → unevaluated_properties_say b judged (option_map (seen (place_unevaluated b)) o) v ≡ unevaluated_properties_say b judged o v
unevaluated-seen true judged o v = additional-seen judged o v
unevaluated-seen false judged o v = refl

unevaluated_items-seen : (b : Bool) (judged : _) (o : Option Reading) (v : Data)
    → unevaluated_items_say b judged (option_map (seen (place_unevaluated b)) o) v ≡ unevaluated_items_say b judged o v
unevaluated_items-seen b judged None v = refl
unevaluated_items-seen true judged (Some x) v = refl
unevaluated_items-seen false judged (Some x) v = refl

each-seen : (join : _) (o : Option Reading) (v : Data) → each_says join (option_map (seen SchemaList) o) v ≡ each_says join o v
each-seen join None v = refl
each-seen join (Some x) v = refl

not-seen : (o : Option Reading) (v : Data) → not_says (option_map (seen OneSchema) o) v ≡ not_says o v
not-seen None v = refl
not-seen (Some x) v = refl

condition-seen : (b : Bool) (o p q : Option Reading) (v : Data)
    → condition_says b (option_map (seen OneSchema) o) (option_map (seen OneSchema) p) (option_map (seen OneSchema) q) v
    ≡ condition_says b o p q v
condition-seen b None p q v = refl
condition-seen b (Some x) None None v = refl
condition-seen b (Some x) None (Some z) v = refl
condition-seen b (Some x) (Some y) None v = refl
condition-seen b (Some x) (Some y) (Some z) v = refl

dependents-seen : (b : Bool) (o : Option Reading) (v : Data)
    → dependent_schemas_say b (option_map (seen (place_dependents b)) o) v ≡ dependent_schemas_say b o v
dependents-seen b None v = refl
dependents-seen true (Some x) v = refl
dependents-seen false (Some x) v = refl

dependencies-seen : (b : Bool) (names : Option Data) (o : Option Reading) (v : Data)
    → dependencies_say b names (option_map (seen (place_dependents b)) o) v ≡ dependencies_say b names o v
dependencies-seen b names None v = refl
dependencies-seen true names (Some x) v = refl
dependencies-seen false names (Some x) v = refl

stands-seen : (o : Option Reading) → has_schema (option_map (seen OneSchema) o) ≡ has_schema o
stands-seen None = refl
stands-seen (Some x) = refl

stands_unevaluated-seen : (b : Bool) (o : Option Reading)
    → b && has_schema (option_map (seen (place_unevaluated b)) o) ≡ b && has_schema o
stands_unevaluated-seen true o = stands-seen o
stands_unevaluated-seen false o = refl

rest-seen : (d : Dialect) (read : Readings) (p : Part)
    → d.reads_unevaluated && judges_rest (seen_under d read) p ≡ d.reads_unevaluated && judges_rest read p
rest-seen d read (key k) = stands_unevaluated-seen d.reads_unevaluated (read (codes "unevaluatedProperties"))
rest-seen d read (position n) = stands_unevaluated-seen d.reads_unevaluated (read (codes "unevaluatedItems"))

judged_items-seen : (b : Bool) (p i a : Option Reading) (n : ℕ)
    → judged_by_items b (option_map (seen SchemaList) p) (option_map (seen SchemaOrList) i) (option_map (seen OneSchema) a) n
    ≡ judged_by_items b p i a n
judged_items-seen true None None a n = refl
judged_items-seen true None (Some i) a n = refl
judged_items-seen true (Some p) None a n = refl
judged_items-seen true (Some p) (Some i) a n = refl
judged_items-seen false p None a n = refl
judged_items-seen false p (Some i) None n = refl
judged_items-seen false p (Some i) (Some a) n = refl

judged_contains-seen : (b : Bool) (o : Option Reading) (v : Data) (n : ℕ)
    → judged_by_contains b (option_map (seen OneSchema) o) v n ≡ judged_by_contains b o v n
judged_contains-seen b None v n = refl
judged_contains-seen b (Some x) v n = refl

judged_list-seen : (o : Option Reading) (v : Data) (p : Part) → judged_by_list (option_map (seen SchemaList) o) v p ≡ judged_by_list o v p
judged_list-seen None v p = refl
judged_list-seen (Some x) v p = refl

judged_schema-seen : (o : Option Reading) (v : Data) (p : Part)
    → judged_by_schema (option_map (seen OneSchema) o) v p ≡ judged_by_schema o v p
judged_schema-seen None v p = refl
judged_schema-seen (Some x) v p = refl

judged_branch-seen : (x : Verdict) (o q : Option Reading) (v : Data) (p : Part)
    → judged_by_schema (branch_of x (option_map (seen OneSchema) o) (option_map (seen OneSchema) q)) v p
    ≡ judged_by_schema (branch_of x o q) v p
judged_branch-seen Yes o q v p = judged_schema-seen o v p
judged_branch-seen No o q v p = judged_schema-seen q v p
judged_branch-seen Open o q v p = refl

judged_condition-seen : (b : Bool) (o y n : Option Reading) (v : Data) (p : Part)
    → judged_by_condition b (option_map (seen OneSchema) o) (option_map (seen OneSchema) y) (option_map (seen OneSchema) n) v p
    ≡ judged_by_condition b o y n v p
judged_condition-seen b None y n v p = refl
judged_condition-seen b (Some x) y n v p = go x.schema
  where
    go : (s : Option Judge)
        → judged_by_condition b (Some (record { schema = s; listed = None; named = None; among = [] })) (option_map (seen OneSchema) y)
        (option_map (seen OneSchema) n) v p
        ≡ judged_by_condition b (Some (record { schema = s; listed = None; named = None; among = [] })) y n v p
    go None = refl
    go (Some s) = ap (λ j. b && (judged_by s v p || j)) (judged_branch-seen (s.fits v) y n v p)

judged_dependents-seen : (b : Bool) (o : Option Reading) (v : Data) (p : Part)
    → judged_by_dependents b (option_map (seen (place_dependents b)) o) v p ≡ judged_by_dependents b o v p
judged_dependents-seen b None v p = refl
judged_dependents-seen true (Some x) v p = refl
judged_dependents-seen false (Some x) v p = go x.named
  where
    go : (s : Option (List (Text × Judge)))
        → false ≡ judged_by_dependents false (Some (record { schema = None; listed = None; named = s; among = [] })) v p
    go None = refl
    go (Some ss) = refl

pub or-cong : {a b c d : Bool} → a ≡ b → c ≡ d → a || c ≡ b || d
or-cong {b} {c} e h = ap (λ x. x || c) e ∙ ap (λ x. b || x) h

or-else : (a : Bool) {c d : Bool} → c ≡ d → a || c ≡ a || d
or-else a h = ap (λ x. a || x) h

itself-seen : (c : Context) (read : Readings) (v : Data) (p : Part)
    → judged_itself c (seen_under c.dialect read) v p ≡ judged_itself c read v p
itself-seen c read v (key k) =
    or-cong (ap (λ f. f k) (covered-seen c.patterns (read (codes "properties")) (read (codes "patternProperties"))))
    (stands-seen (read (codes "additionalProperties")))
itself-seen c read v (position n) =
    or-cong (judged_items-seen c.dialect.reads_prefix_items (read (codes "prefixItems")) (read (codes "items"))
    (read (codes "additionalItems")) n)
    (judged_contains-seen c.dialect.reads_prefix_items (read (codes "contains")) v n)

judged-seen : (c : Context) (raw : Raw) (read : Readings) (v : Data) (p : Part)
    → judged_beside c raw (seen_under c.dialect read) v p ≡ judged_beside c raw read v p
judged-seen c raw read v p =
    or-cong (itself-seen c read v p)
    (or-cong (judged_list-seen (read (codes "allOf")) v p)
    (or-cong (judged_list-seen (read (codes "anyOf")) v p)
    (or-cong (judged_list-seen (read (codes "oneOf")) v p)
    (or-cong (judged_condition-seen c.dialect.reads_const (read (codes "if")) (read (codes "then")) (read (codes "else")) v p)
    (or-cong (judged_dependents-seen c.dialect.reads_unevaluated (read (codes "dependentSchemas")) v p) refl)))))

additional_covered-seen : (patterns : Patterns) (o p a : Option Reading) (v : Data)
    → additional_properties_say (is_covered patterns (option_map (seen SchemasByName) o) (option_map (seen SchemasByName) p))
    (option_map (seen OneSchema) a) v
    ≡ additional_properties_say (is_covered patterns o p) a v
additional_covered-seen patterns o p a v =
    ap (λ f. additional_properties_say f (option_map (seen OneSchema) a) v) (covered-seen patterns o p)
    ∙ additional-seen (is_covered patterns o p) a v

cons : {x y : Verdict} {xs ys : List Verdict} → x ≡ y → xs ≡ ys → x ∷ xs ≡ y ∷ ys
cons {y} {xs} e h = ap (λ z. z ∷ xs) e ∙ ap (λ zs. y ∷ zs) h

behind : (xs : List Verdict) {ys zs : List Verdict} → ys ≡ zs → xs ++ ys ≡ xs ++ zs
behind xs h = ap (λ zs. xs ++ zs) h

joined-seen : (c : Context) (raw : Raw) (read : Readings) (v : Data)
    → joined_say c raw (seen_under c.dialect read) v ≡ joined_say c raw read v
joined-seen c raw read v =
    cons (each-seen any_of (read (codes "anyOf")) v)
    (cons (each-seen one_of (read (codes "oneOf")) v)
    (cons (not-seen (read (codes "not")) v)
    (cons (condition-seen c.dialect.reads_const (read (codes "if")) (read (codes "then")) (read (codes "else")) v)
    (cons (dependents-seen c.dialect.reads_unevaluated (read (codes "dependentSchemas")) v)
    (cons (dependencies-seen (reads_dependencies c.dialect) (raw (codes "dependencies")) (read (codes "dependencies")) v) refl)))))

left-seen : (c : Context) (raw : Raw) (read : Readings) (v : Data)
    → left_say c (seen_under c.dialect read) (judged_beside c raw (seen_under c.dialect read) v) v
    ≡ left_say c read (judged_beside c raw read v) v
left-seen c raw read v =
    ap (λ judged. left_say c (seen_under c.dialect read) judged v) (fun_ext (judged-seen c raw read v))
    ∙ cons (unevaluated_items-seen c.dialect.reads_unevaluated (λ n. judged_beside c raw read v (position n))
    (read (codes "unevaluatedItems")) v)
    (cons (unevaluated-seen c.dialect.reads_unevaluated (λ k. judged_beside c raw read v (key k))
    (read (codes "unevaluatedProperties")) v) refl)

schemas-seen : (c : Context) (read : Readings) (v : Data) → schemas_say c (seen_under c.dialect read) v ≡ schemas_say c read v
schemas-seen c read v =
    cons (names-seen c.dialect.reads_const (read (codes "propertyNames")) v)
    (cons (properties-seen (read (codes "properties")) v)
    (cons (pattern_properties-seen c.patterns (read (codes "patternProperties")) v)
    (cons (additional_covered-seen c.patterns (read (codes "properties")) (read (codes "patternProperties"))
    (read (codes "additionalProperties")) v) refl)))

joined : {ws xs ys zs : List Verdict} → ws ≡ xs → ys ≡ zs → ws ++ ys ≡ xs ++ zs
joined {xs} {ys} e h = ap (λ l. l ++ ys) e ∙ ap (λ l. xs ++ l) h

verdicts-seen : (c : Context) (raw : Raw) (read : Readings) (v : Data)
    → all_say c raw (seen_under c.dialect read) v ≡ all_say c raw read v
verdicts-seen c raw read v =
    behind (reference_says c.follow (raw (codes "$ref")) v ∷ values_say c raw v)
    (cons (items-seen c.dialect.reads_prefix_items (read (codes "prefixItems")) (read (codes "items")) (read (codes "additionalItems")) v)
    (cons (contains-seen c.dialect.reads_const c.dialect.reads_unevaluated (read (codes "contains")) (raw (codes "minContains"))
    (raw (codes "maxContains")) v)
    (behind (keys_say c raw v)
    (joined (schemas-seen c read v)
    (cons (each-seen all_of (read (codes "allOf")) v)
    (joined (joined-seen c raw read v) (left-seen c raw read v)))))))

fits-seen : (c : Context) (raw : Raw) (read : Readings) (v : Data)
    → (all_keywords c raw (seen_under c.dialect read)).fits v ≡ (all_keywords c raw read).fits v
fits-seen c raw read v =
    fits-all c raw (seen_under c.dialect read) v ∙ (ap all_of (verdicts-seen c raw read v) ∙ sym (fits-all c raw read v))

judges-seen : (c : Context) (raw : Raw) (read : Readings) (v : Data) (p : Part)
    → (all_keywords c raw (seen_under c.dialect read)).judges v p ≡ (all_keywords c raw read).judges v p
unfolding all_keywords
judges-seen c raw read v p = or-cong (judged-seen c raw read v p) (rest-seen c.dialect read p)

all_keywords-seen : (c : Context) (raw : Raw) (read : Readings) → all_keywords c raw (seen_under c.dialect read) ≡ all_keywords c raw read
all_keywords-seen c raw read = judge_ext _ _ (fits-seen c raw read) (judges-seen c raw read)

-- ---- and on the schema that its own reference leads to

-- two ways to follow references agree on this one, if it is one
abbrev pub AgreeOn : (Text → Judge) → (Text → Judge) → Option Data → Type 0
AgreeOn f g reference = elim (option_and_then as_str reference) [ None ↦ Unit {0} | Some t ↦ f t ≡ g t ]

reference-same : (f g : Text → Judge) (reference : Option Data) (v : Data) → AgreeOn f g reference
    → reference_says f reference v ≡ reference_says g reference v
reference-same f g None v e = refl
reference-same f g (Some null) v e = refl
reference-same f g (Some (boolean b)) v e = refl
reference-same f g (Some (number n)) v e = refl
reference-same f g (Some (string t)) v e = ap (λ j. j.fits v) e
reference-same f g (Some (array ds)) v e = refl
reference-same f g (Some (object ms)) v e = refl

judged_reference-same : (f g : Text → Judge) (reference : Option Data) (v : Data) (p : Part) → AgreeOn f g reference
    → judged_by_reference f reference v p ≡ judged_by_reference g reference v p
judged_reference-same f g None v p e = refl
judged_reference-same f g (Some null) v p e = refl
judged_reference-same f g (Some (boolean b)) v p e = refl
judged_reference-same f g (Some (number n)) v p e = refl
judged_reference-same f g (Some (string t)) v p e = ap (λ j. judged_by j v p) e
judged_reference-same f g (Some (array ds)) v p e = refl
judged_reference-same f g (Some (object ms)) v p e = refl

module _ (c : Context) (f : Text → Judge) (raw : Raw) (read : Readings) (e : AgreeOn f c.follow (raw (codes "$ref"))) where
  judged-follow : (v : Data) (p : Part) → judged_beside (record c { follow = f }) raw read v p ≡ judged_beside c raw read v p
  judged-follow v p =
      or-else (judged_itself c read v p)
      (or-else (judged_by_list (read (codes "allOf")) v p)
      (or-else (judged_by_list (read (codes "anyOf")) v p)
      (or-else (judged_by_list (read (codes "oneOf")) v p)
      (or-else (judged_by_condition c.dialect.reads_const (read (codes "if")) (read (codes "then")) (read (codes "else")) v p)
      (or-else (judged_by_dependents c.dialect.reads_unevaluated (read (codes "dependentSchemas")) v p)
      (judged_reference-same f c.follow (raw (codes "$ref")) v p e))))))

  verdicts-follow : (v : Data) → all_say (record c { follow = f }) raw read v ≡ all_say c raw read v
  verdicts-follow v =
      cons (reference-same f c.follow (raw (codes "$ref")) v e)
      (behind (before_say c raw read v ++ each_says all_of (read (codes "allOf")) v ∷ joined_say c raw read v)
      (ap (λ judged. left_say c read judged v) (fun_ext (judged-follow v))))

  all_keywords-follow : all_keywords (record c { follow = f }) raw read ≡ all_keywords c raw read
  unfolding all_keywords
  all_keywords-follow =
      judge_ext _ _
      (λ v. fits-all (record c { follow = f }) raw read v ∙ (ap all_of (verdicts-follow v) ∙ sym (fits-all c raw read v)))
      (λ v p. ap (λ b. b || (c.dialect.reads_unevaluated && judges_rest read p)) (judged-follow v p))

  alone-follow : reference_alone (record c { follow = f }) raw ≡ reference_alone c raw
  alone-follow =
      judge_ext _ _ (λ v. reference-same f c.follow (raw (codes "$ref")) v e)
      (λ v p. judged_reference-same f c.follow (raw (codes "$ref")) v p e)

  pub keywords-follow : keywords (record c { follow = f }) raw read ≡ keywords c raw read
  keywords-follow = rw (all_keywords-follow, alone-follow) refl

-- ---- what stands under keywords for schemas is only read

abbrev pub at_no_schemas : Place → Option Data → Option Data
at_no_schemas NoSchemas o = o
at_no_schemas OneSchema o = None
at_no_schemas SchemaList o = None
at_no_schemas SchemaOrList o = None
at_no_schemas SchemasByName o = None

abbrev pub unread_under : Raw → Raw
unread_under raw k = at_no_schemas (place_under k) (raw k)

pub keywords-unread : (c : Context) (raw : Raw) (read : Readings) → keywords c (unread_under raw) read ≡ keywords c raw read
unfolding all_keywords
keywords-unread c raw read = refl

pub keywords-seen : (c : Context) (raw : Raw) (read : Readings)
    → keywords c raw (seen_under c.dialect read) ≡ keywords c raw read
keywords-seen c raw read = rw (all_keywords-seen c raw read) refl
