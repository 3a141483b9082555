-- Which form the value of each keyword has: JSON Schema Core, sections 8 to 11, and Validation, section 6; the Schema Object of OpenAPI 3.0.
use Rattle.std.specs.Prelude.{◌==◌, ◌&&◌, ◌||◌, Bool, true, false, not, is_some, List, [], ◌∷◌, Option, Some, None, if◌then◌else◌, codes, bytes_eq}
use Rattle.std.specs.Option.{option_or, unwrap_or}
use Rattle.serde_json.specs.Data.{Data, Num, unsigned, Items, no_items, item, Members, no_members, member}
use Rattle.serde_json.specs.Events.{items_len}
use Rattle.serde_json.specs.Find.{as_str, as_bool, as_number, as_array, as_object}
use Rattle.schemars_text.specs.OrderedText.{is_listed}
use Rattle.schemars_schema.specs.Json.{Text, are_distinct}
use Rattle.schemars_schema.specs.SchemaData.{is_schema}
use Rattle.schemars_schema.specs.Numbers.{number_le}
use Rattle.schemars_schema.specs.Assertions.{type_names, are_type_names, count_of_number}
use Rattle.schemars_assertions.specs.Texts.{are_texts, texts_of}
use Rattle.schemars_readable.specs.declared.draft.Draft as named
use Rattle.schemars_readable.specs.declared.forms.Form.{Form}
use Rattle.schemars_readable.specs.declared.forms.Form.TheVariants as form

-- ---- the keywords of each form

abbrev pub Rows : Type 0
Rows = List (Form × List Text)

abbrev pub in_all : Rows
in_all =
    (form.AnyText, codes "$ref" ∷ codes "pattern" ∷ [])
    ∷ (form.AnyList, codes "enum" ∷ [])
    ∷ (form.AnyNumber, codes "minimum" ∷ codes "maximum" ∷ [])
    ∷ (form.Divisor, codes "multipleOf" ∷ [])
    ∷ (form.Count, codes "minLength" ∷ codes "maxLength" ∷ codes "minItems" ∷ codes "maxItems" ∷ codes "minProperties" ∷ codes "maxProperties" ∷ [])
    ∷ (form.TruthValue, codes "uniqueItems" ∷ [])
    ∷ (form.Names, codes "required" ∷ [])
    ∷ (form.SchemasByName, codes "properties" ∷ codes "patternProperties" ∷ [])
    ∷ (form.SchemaOrTruth, codes "additionalProperties" ∷ [])
    ∷ (form.OneSchema, codes "not" ∷ [])
    ∷ (form.Schemas, codes "allOf" ∷ codes "anyOf" ∷ codes "oneOf" ∷ [])
    ∷ []

-- those of all drafts, and not of OpenAPI
abbrev pub in_drafts : Rows
in_drafts =
    (form.Types, codes "type" ∷ [])
    ∷ (form.AnyNumber, codes "exclusiveMinimum" ∷ codes "exclusiveMaximum" ∷ [])
    ∷ (form.OneSchema, codes "contains" ∷ codes "propertyNames" ∷ codes "if" ∷ codes "then" ∷ codes "else" ∷ [])
    ∷ (form.SchemasByName, codes "definitions" ∷ [])
    ∷ []

abbrev pub since_2019_09 : Rows
since_2019_09 =
    (form.Count, codes "minContains" ∷ codes "maxContains" ∷ [])
    ∷ (form.NamesByName, codes "dependentRequired" ∷ [])
    ∷ (form.SchemasByName, codes "dependentSchemas" ∷ codes "$defs" ∷ [])
    ∷ (form.OneSchema, codes "unevaluatedItems" ∷ codes "unevaluatedProperties" ∷ [])
    ∷ []

abbrev pub before_2020_12 : Rows
before_2020_12 = (form.SchemaOrList, codes "items" ∷ []) ∷ (form.OneSchema, codes "additionalItems" ∷ []) ∷ []

abbrev pub in_draft07 : Rows
in_draft07 = (form.EitherByName, codes "dependencies" ∷ []) ∷ []

abbrev pub in_draft2020_12 : Rows
in_draft2020_12 = (form.OneSchema, codes "items" ∷ []) ∷ (form.Schemas, codes "prefixItems" ∷ []) ∷ []

abbrev pub in_openapi3 : Rows
in_openapi3 =
    (form.OneType, codes "type" ∷ [])
    ∷ (form.TruthValue, codes "exclusiveMinimum" ∷ codes "exclusiveMaximum" ∷ codes "nullable" ∷ [])
    ∷ (form.OneSchema, codes "items" ∷ [])
    ∷ []

abbrev pub row_of : Rows → Text → Option Form
row_of [] k = None
row_of (row ∷ rows) k = if is_listed k row.1 then Some row.0 else row_of rows k

abbrev pub form_in_dialect : named.Draft → Text → Option Form
form_in_dialect named.TheVariants.Draft07 k = option_or (option_or (row_of in_drafts k) (row_of before_2020_12 k)) (row_of in_draft07 k)
form_in_dialect named.TheVariants.Draft2019_09 k =
    option_or (option_or (row_of in_drafts k) (row_of since_2019_09 k)) (row_of before_2020_12 k)
form_in_dialect named.TheVariants.Draft2020_12 k =
    option_or (option_or (row_of in_drafts k) (row_of since_2019_09 k)) (row_of in_draft2020_12 k)
form_in_dialect named.TheVariants.OpenApi3 k = row_of in_openapi3 k

-- a keyword in none of the tables may have any value
abbrev pub form_of : named.Draft → Text → Form
form_of draft k = unwrap_or (option_or (row_of in_all k) (form_in_dialect draft k)) form.AnyValue

-- ---- what has a form

-- a schema of the dialect; one of OpenAPI 3.0 is no truth value
abbrev pub is_schema_in : named.Draft → Data → Bool
is_schema_in named.TheVariants.Draft07 d = is_schema d
is_schema_in named.TheVariants.Draft2019_09 d = is_schema d
is_schema_in named.TheVariants.Draft2020_12 d = is_schema d
is_schema_in named.TheVariants.OpenApi3 d = is_some (as_object d)

abbrev pub each_item : (Data → Bool) → Items → Bool
each_item test no_items = true
each_item test (item d ds) = test d && each_item test ds

abbrev pub each_member : (Data → Bool) → Members → Bool
each_member test no_members = true
each_member test (member k d ms) = test d && each_member test ms

abbrev pub is_list : (Items → Bool) → Data → Bool
is_list test d = elim (as_array d) [ None ↦ false | Some ds ↦ test ds ]

abbrev pub is_map : (Data → Bool) → Data → Bool
is_map test d = elim (as_object d) [ None ↦ false | Some ms ↦ each_member test ms ]

abbrev pub is_above_zero : Data → Bool
is_above_zero d = elim (as_number d) [ None ↦ false | Some n ↦ not (number_le n (unsigned 0)) ]

-- a list of texts
abbrev pub are_names : Data → Bool
are_names d = is_list are_texts d

-- the name of a type, or a list of such names, each once
abbrev pub are_types : Items → Bool
are_types ds = (are_texts ds && are_type_names (texts_of ds)) && are_distinct ds

abbrev pub is_types : Data → Bool
is_types d = elim (as_str d) [ None ↦ is_list are_types d | Some t ↦ is_listed t type_names ]

-- the name of a type of OpenAPI 3.0, which has no null
abbrev pub is_one_type : Data → Bool
is_one_type d = elim (as_str d) [ None ↦ false | Some t ↦ is_listed t type_names && not (bytes_eq t (codes "null")) ]

abbrev pub are_schemas : named.Draft → Items → Bool
are_schemas draft ds = each_item (is_schema_in draft) ds

-- one schema or more
abbrev pub are_some_schemas : named.Draft → Items → Bool
are_some_schemas draft ds = not (items_len ds == 0) && are_schemas draft ds

abbrev pub is_schema_or_names : named.Draft → Data → Bool
is_schema_or_names draft d = is_schema_in draft d || are_names d

abbrev pub has_form : named.Draft → Form → Data → Bool
has_form draft form.AnyValue d = true
has_form draft form.AnyText d = is_some (as_str d)
has_form draft form.TruthValue d = is_some (as_bool d)
has_form draft form.AnyNumber d = is_some (as_number d)
has_form draft form.Divisor d = is_above_zero d
has_form draft form.Count d = is_some (count_of_number d)
has_form draft form.AnyList d = is_some (as_array d)
has_form draft form.Names d = are_names d
has_form draft form.OneType d = is_one_type d
has_form draft form.Types d = is_types d
has_form draft form.OneSchema d = is_schema_in draft d
has_form draft form.SchemaOrTruth d = is_schema d
has_form draft form.SchemaOrList d = is_schema_in draft d || is_list (are_schemas draft) d
has_form draft form.Schemas d = is_list (are_some_schemas draft) d
has_form draft form.SchemasByName d = is_map (is_schema_in draft) d
has_form draft form.NamesByName d = is_map are_names d
has_form draft form.EitherByName d = is_map (is_schema_or_names draft) d

-- the value of a keyword has no form that the dialect gives it
abbrev pub is_malformed : named.Draft → Text → Data → Bool
is_malformed draft k d = not (has_form draft (form_of draft k) d)
