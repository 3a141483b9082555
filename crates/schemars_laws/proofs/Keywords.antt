-- What the keywords of an object say, in groups, and keywords of which some are left out.
use Rattle.std.proofs.Common.{◌≡◌, List, [], ◌∷◌, Option, None, Bool, true, false, codes, refl, sym, subst, true≢false}
use Rattle.schemars_laws.proofs.Words.{bytes_eq-Decides, ◌++◌, ◌||◌, bytes_eq, if◌then◌else◌, Data, Text, is_listed, Verdict, all_of, any_of, one_of, reads_dependencies, Context, Raw, Readings, Part, key, position, multiple_of_says, type_says, const_says, enum_says, minimum_says, maximum_says, exclusive_minimum_says, exclusive_maximum_says, min_length_says, max_length_says, pattern_says, min_items_says, max_items_says, unique_items_says, min_properties_says, max_properties_says, required_says, dependent_required_says, dependencies_say, unevaluated_items_say, items_say, is_covered, reference_says, contains_says, property_names_say, properties_say, pattern_properties_say, additional_properties_say, each_says, not_says, condition_says, dependent_schemas_say, unevaluated_properties_say, judged_beside, all_keywords}

-- about numbers and texts, and about lists as wholes
abbrev pub counts_say : Context → Raw → Data → List Verdict
counts_say c raw v =
    minimum_says (raw (codes "minimum")) v
    ∷ maximum_says (raw (codes "maximum")) v
    ∷ exclusive_minimum_says c.dialect.reads_const (raw (codes "exclusiveMinimum")) (raw (codes "minimum")) v
    ∷ exclusive_maximum_says c.dialect.reads_const (raw (codes "exclusiveMaximum")) (raw (codes "maximum")) v
    ∷ multiple_of_says (raw (codes "multipleOf")) v
    ∷ min_length_says (raw (codes "minLength")) v
    ∷ max_length_says (raw (codes "maxLength")) v
    ∷ pattern_says c.patterns (raw (codes "pattern")) v
    ∷ min_items_says (raw (codes "minItems")) v
    ∷ max_items_says (raw (codes "maxItems")) v
    ∷ unique_items_says (raw (codes "uniqueItems")) v
    ∷ []

-- and about types and values
abbrev pub values_say : Context → Raw → Data → List Verdict
values_say c raw v =
    type_says c.dialect.reads_nullable (raw (codes "type")) (raw (codes "nullable")) v
    ∷ const_says c.dialect.reads_const (raw (codes "const")) v
    ∷ enum_says (raw (codes "enum")) v
    ∷ counts_say c raw v

-- about keys
abbrev pub keys_say : Context → Raw → Data → List Verdict
keys_say c raw v =
    min_properties_says (raw (codes "minProperties")) v
    ∷ max_properties_says (raw (codes "maxProperties")) v
    ∷ required_says (raw (codes "required")) v
    ∷ dependent_required_says c.dialect.reads_unevaluated (raw (codes "dependentRequired")) v
    ∷ []

-- with schemas for members
abbrev pub schemas_say : Context → Readings → Data → List Verdict
schemas_say c read v =
    property_names_say c.dialect.reads_const (read (codes "propertyNames")) v
    ∷ properties_say (read (codes "properties")) v
    ∷ pattern_properties_say c.patterns (read (codes "patternProperties")) v
    ∷ additional_properties_say (is_covered c.patterns (read (codes "properties")) (read (codes "patternProperties")))
    (read (codes "additionalProperties")) v
    ∷ []

-- about an item among others, and about members
abbrev pub members_say : Context → Raw → Readings → Data → List Verdict
members_say c raw read v =
    contains_says c.dialect.reads_const c.dialect.reads_unevaluated (read (codes "contains")) (raw (codes "minContains"))
    (raw (codes "maxContains")) v
    ∷ keys_say c raw v
    ++ schemas_say c read v

-- before `allOf`
abbrev pub before_say : Context → Raw → Readings → Data → List Verdict
before_say c raw read v =
    values_say c raw v
    ++ items_say c.dialect.reads_prefix_items (read (codes "prefixItems")) (read (codes "items")) (read (codes "additionalItems")) v
    ∷ members_say c raw read v

-- after `allOf`, with schemas of the same value
abbrev pub joined_say : Context → Raw → Readings → Data → List Verdict
joined_say c raw read v =
    each_says any_of (read (codes "anyOf")) v
    ∷ each_says one_of (read (codes "oneOf")) v
    ∷ not_says (read (codes "not")) v
    ∷ condition_says c.dialect.reads_const (read (codes "if")) (read (codes "then")) (read (codes "else")) v
    ∷ dependent_schemas_say c.dialect.reads_unevaluated (read (codes "dependentSchemas")) v
    ∷ dependencies_say (reads_dependencies c.dialect) (raw (codes "dependencies")) (read (codes "dependencies")) v
    ∷ []

-- about what is left where these parts are judged
abbrev pub left_say : Context → Readings → (Part → Bool) → Data → List Verdict
left_say c read judged v =
    unevaluated_items_say c.dialect.reads_unevaluated (λ n. judged (position n)) (read (codes "unevaluatedItems")) v
    ∷ unevaluated_properties_say c.dialect.reads_unevaluated (λ k. judged (key k)) (read (codes "unevaluatedProperties")) v
    ∷ []

abbrev pub last_say : Context → Raw → Readings → (Part → Bool) → Data → List Verdict
last_say c raw read judged v = joined_say c raw read v ++ left_say c read judged v

-- all, in order
abbrev pub all_say : Context → Raw → Readings → Data → List Verdict
all_say c raw read v =
    reference_says c.follow (raw (codes "$ref")) v
    ∷ before_say c raw read v
    ++ each_says all_of (read (codes "allOf")) v
    ∷ last_say c raw read (judged_beside c raw read v) v

pub fits-all : (c : Context) (raw : Raw) (read : Readings) (v : Data) → (all_keywords c raw read).fits v ≡ all_of (all_say c raw read v)
unfolding all_keywords
fits-all c raw read v = refl

-- ---- without some of the keywords

abbrev pub left_out : {A : Type 0} → List Text → (Text → Option A) → Text → Option A
left_out ks f k = if is_listed k ks then None else f k

abbrev pub AgreeOutside : {A : Type 0} → List Text → (Text → Option A) → (Text → Option A) → Type 0
AgreeOutside ks f g = (k : Text) → is_listed k ks ≡ false → f k ≡ g k

pub left_out-agree : {A : Type 0} (ks : List Text) (f g : Text → Option A) → AgreeOutside ks f g → (k : Text)
    → left_out ks f k ≡ left_out ks g k
left_out-agree {A} ks f g e k = go (is_listed k ks) refl
  where
    go : (b : Bool) → is_listed k ks ≡ b → (if b then None else f k) ≡ (if b then None else g k)
    go true is = refl
    go false is = e k is

-- ---- keywords that are not there are not missed

abbrev pub AllNone : {A : Type 0} → List Text → (Text → Option A) → Type 0
AllNone [] f = Unit {0}
AllNone (k ∷ ks) f = (f k ≡ None) × AllNone ks f

none-listed : {A : Type 0} (ks : List Text) (f : Text → Option A) → AllNone ks f → (k : Text) → is_listed k ks ≡ true → f k ≡ None
none-listed [] f none k is = absurd (true≢false (sym is))
none-listed (l ∷ ls) f none k is = go (bytes_eq k l) refl is (none-listed ls f none.1 k)
  where
    go : (b : Bool) → bytes_eq k l ≡ b → b || is_listed k ls ≡ true → (is_listed k ls ≡ true → f k ≡ None) → f k ≡ None
    go true same is later = subst (λ x. f x ≡ None) (sym ((bytes_eq-Decides k l).0 same)) none.0
    go false same is later = later is

pub left_out-none : {A : Type 0} (ks : List Text) (f : Text → Option A) → AllNone ks f → (k : Text) → left_out ks f k ≡ f k
left_out-none ks f none k = go (is_listed k ks) refl
  where
    go : (b : Bool) → is_listed k ks ≡ b → (if b then None else f k) ≡ f k
    go true is = sym (none-listed ks f none k is)
    go false is = refl
