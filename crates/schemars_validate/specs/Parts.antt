-- The keywords by groups.
use Rattle.std.specs.Prelude.{◌||◌, map, Bool, true, false, is_some, Option, Some, None, option_map, if◌then◌else◌, List, [], ◌∷◌, codes}
use Rattle.serde_json.specs.Data.{Data, string, Items, no_items, item}
use Rattle.serde_json.specs.Find.{as_array, as_object}
use Rattle.schemars_schema.specs.Json.{Text}
use Rattle.schemars_schema.specs.Verdict.{Verdict, Yes, both, all_of, any_of, one_of}
use Rattle.schemars_schema.specs.Dialects.{reads_dependencies}
use Rattle.schemars_schema.specs.Judges.{Patterns, Context, Judge, Test, Raw, Readings, where_some, each_member}
use Rattle.schemars_schema.specs.Applicators.{items_say, contains_says, property_names_say, properties_say, pattern_properties_say, additional_properties_say, is_covered, each_says, not_says, condition_says, dependent_schemas_say, dependencies_say, beside_members, reference_says, schema_named, by_patterns, matches_some}
use Rattle.schemars_schema.specs.Acceptance.{read_data}
use Rattle.schemars_assertions.specs.Groups.{by_itself, by_keys}
use Rattle.schemars_validate.specs.Schemas.{schema_at, schemas_in}

-- the value of each keyword, read
abbrev pub reads : Context → Raw → Readings
reads c raw k = option_map (read_data c) (raw k)

-- the keywords for items, for members and for keys
abbrev pub inside : Context → Raw → Data → List Verdict
inside c raw v =
    items_say c.dialect.reads_prefix_items (reads c raw (codes "prefixItems")) (reads c raw (codes "items"))
    (reads c raw (codes "additionalItems")) v
    ∷ contains_says c.dialect.reads_const c.dialect.reads_unevaluated (reads c raw (codes "contains")) (raw (codes "minContains"))
    (raw (codes "maxContains")) v
    ∷ all_of (by_keys c.dialect raw v)
    ∷ property_names_say c.dialect.reads_const (reads c raw (codes "propertyNames")) v
    ∷ both (properties_say (reads c raw (codes "properties")) v)
    (both (pattern_properties_say c.patterns (reads c raw (codes "patternProperties")) v)
    (additional_properties_say
    (is_covered c.patterns (reads c raw (codes "properties")) (reads c raw (codes "patternProperties")))
    (reads c raw (codes "additionalProperties")) v))
    ∷ []

-- all keywords but those for what is left
abbrev pub besides : Context → Raw → Data → List Verdict
besides c raw v =
    reference_says c.follow (raw (codes "$ref")) v
    ∷ all_of (by_itself c.dialect c.patterns raw v)
    ∷ all_of (inside c raw v)
    ∷ each_says all_of (reads c raw (codes "allOf")) v
    ∷ each_says any_of (reads c raw (codes "anyOf")) v
    ∷ each_says one_of (reads c raw (codes "oneOf")) v
    ∷ not_says (reads c raw (codes "not")) v
    ∷ condition_says c.dialect.reads_const (reads c raw (codes "if")) (reads c raw (codes "then")) (reads c raw (codes "else")) v
    ∷ dependent_schemas_say c.dialect.reads_unevaluated (reads c raw (codes "dependentSchemas")) v
    ∷ dependencies_say (reads_dependencies c.dialect) (raw (codes "dependencies")) (reads c raw (codes "dependencies")) v
    ∷ []

-- ---- lists

-- a schema for each of the first items, and one for all others
abbrev pub each_item : List Judge → Option Judge → Items → Verdict
each_item ss others no_items = Yes
each_item [] others (item v vs) = both (where_some others (λ s. s.fits v)) (each_item [] others vs)
each_item (s ∷ ss) others (item v vs) = both (s.fits v) (each_item ss others vs)

abbrev pub items_by : List Judge → Option Judge → Test
items_by ss others v = where_some (as_array v) (λ vs. each_item ss others vs)

abbrev pub items_or_none : Option Items → Items
items_or_none None = no_items
items_or_none (Some ds) = ds

-- the schemas of the first items, and of all others
abbrev pub first_schemas : Bool → Raw → Items
first_schemas true raw = items_or_none (schemas_in (raw (codes "prefixItems")))
first_schemas false raw = items_or_none (schemas_in (raw (codes "items")))

abbrev pub other_schema : Bool → Raw → Option Data
other_schema true raw = schema_at (raw (codes "items"))
other_schema false raw =
    schema_at (if is_some (schemas_in (raw (codes "items"))) then raw (codes "additionalItems") else raw (codes "items"))

-- ---- objects

-- what the schema of its name, those of the patterns that it matches, and else that of all others say of a member
abbrev pub member_by : Patterns → List (Text × Judge) → List (Text × Judge) → Option Judge → Text → Data → Verdict
member_by patterns named by_pattern others k w =
    both (where_some (schema_named k named) (λ s. s.fits w))
    (both (by_patterns patterns by_pattern k w)
    (if is_some (schema_named k named) || matches_some patterns by_pattern k then Yes else where_some others (λ s. s.fits w)))

abbrev pub members_by : Patterns → List (Text × Judge) → List (Text × Judge) → Option Judge → Test
members_by patterns named by_pattern others v =
    where_some (as_object v) (λ ms. each_member (member_by patterns named by_pattern others) ms)

-- each key, as a text
abbrev pub names_by : Option Judge → Test
names_by names v = where_some names (λ s. where_some (as_object v) (λ ms. each_member (λ k w. s.fits (string k)) ms))

-- the schemas whose names are keys of the value
abbrev pub dependents_by : List (Text × Judge) → Test
dependents_by ss v = where_some (as_object v) (λ ms. all_of (map (λ s. s.fits v) (beside_members ss ms)))
