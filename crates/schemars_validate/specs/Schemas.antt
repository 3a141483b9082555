-- Schemas under a keyword: one, a list of them, or schemas by name.
use Rattle.std.specs.Prelude.{◌&&◌, Bool, true, codes, List, [], ◌∷◌, Option, Some, None, option_and_then, option_map, if◌then◌else◌}
use Rattle.serde_json.specs.Data.{Data, null, boolean, number, string, array, object, Items, no_items, item, Members, no_members, member}
use Rattle.serde_json.specs.Find.{as_array, as_object}
use Rattle.schemars_schema.specs.Json.{Text}
use Rattle.schemars_schema.specs.SchemaData.{is_schema}
use Rattle.schemars_schema.specs.Lookup.{schema_only}
use Rattle.schemars_schema.specs.Judges.{Context, Judge, Raw, when}
use Rattle.schemars_schema.specs.Acceptance.{judge, with_schema}

abbrev pub are_schemas : Items → Bool
are_schemas no_items = true
are_schemas (item d ds) = is_schema d && are_schemas ds

abbrev pub are_named_schemas : Members → Bool
are_named_schemas no_members = true
are_named_schemas (member k d ms) = is_schema d && are_named_schemas ms

-- a keyword's value, if it is a schema
abbrev pub schema_at : Option Data → Option Data
schema_at x = option_and_then schema_only x

abbrev pub first_of : Option Data → Option Data → Option Data
first_of None y = y
first_of (Some d) y = Some d

-- the schemas of a list of schemas alone
abbrev pub schemas_in : Option Data → Option Items
schemas_in x = option_and_then (λ d. option_and_then (λ ds. when (are_schemas ds) ds) (as_array d)) x

-- the schemas of a map of schemas alone
abbrev pub schemas_by_name : Option Data → Option Members
schemas_by_name x = option_and_then (λ d. option_and_then (λ ms. when (are_named_schemas ms) ms) (as_object d)) x

-- under a keyword that only some drafts read
abbrev pub schema_where_read : Bool → Option Data → Option Data
schema_where_read reads x = if reads then schema_at x else None

abbrev pub schemas_where_read : Bool → Option Data → Option Members
schemas_where_read reads x = if reads then schemas_by_name x else None

-- the members of an object under such a keyword, schemas or not
abbrev pub members_where_read : Bool → Option Data → Option Members
members_where_read reads x = if reads then option_and_then as_object x else None

-- the schema for all parts of the value that are left
abbrev pub schema_of_rest : Bool → Raw → Data → Option Data
schema_of_rest reads raw null = None
schema_of_rest reads raw (boolean b) = None
schema_of_rest reads raw (number n) = None
schema_of_rest reads raw (string s) = None
schema_of_rest reads raw (array ds) = schema_where_read reads (raw (codes "unevaluatedItems"))
schema_of_rest reads raw (object ms) = schema_where_read reads (raw (codes "unevaluatedProperties"))

-- how it judges
abbrev pub judge_at : Context → Option Data → Option Judge
judge_at c x = option_map (judge c) x

-- how each of them judges
abbrev pub judges_of : Context → Items → List Judge
judges_of c no_items = []
judges_of c (item d ds) = judge c d ∷ judges_of c ds

abbrev pub named_judges : Context → Members → List (Text × Judge)
named_judges c no_members = []
named_judges c (member k d ms) = (k, judge c d) ∷ named_judges c ms

-- none of them where there is no list, or no map
abbrev pub judges_in : Context → Option Items → List Judge
judges_in c None = []
judges_in c (Some ds) = judges_of c ds

abbrev pub named_judges_in : Context → Option Members → List (Text × Judge)
named_judges_in c None = []
named_judges_in c (Some ms) = named_judges c ms

-- how those of the members judge that are schemas
abbrev pub judges_among : Context → Members → List (Text × Judge)
judges_among c no_members = []
judges_among c (member k d ms) = with_schema k (judge_at c (schema_only d)) (judges_among c ms)

abbrev pub judges_among_in : Context → Option Members → List (Text × Judge)
judges_among_in c None = []
judges_among_in c (Some ms) = judges_among c ms
