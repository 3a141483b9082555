-- The references of a document: the values of `$ref` in the schemas inside it.
-- This file is trusted: the theorem is stated in its words.
use Rattle.std.specs.Prelude.{◌≡◌, ◌&&◌, List, [], ◌∷◌, ◌++◌, Bool, true, if◌then◌else◌, is_some, option_and_then, codes, bytes_eq}
use Rattle.serde_json.specs.Data.{Data, null, boolean, number, string, array, object, Items, no_items, item, Members, no_members, member}
use Rattle.serde_json.specs.Find.{as_str}
use Rattle.schemars_schema.specs.Json.{Text}
use Rattle.schemars_text.specs.OrderedText.{is_listed}
use Rattle.schemars_schema.specs.Lookup.{resolved}

-- where schemas are under a keyword: a schema, a list of schemas, either of these, or schemas by name
pub data Place : Type 0 where
  NoSchemas : Place
  OneSchema : Place
  SchemaList : Place
  SchemaOrList : Place
  SchemasByName : Place

-- the keywords with a schema, a list of schemas, and schemas by name
abbrev pub with_schema : List Text
with_schema = codes "not" ∷ codes "if" ∷ codes "then" ∷ codes "else" ∷ codes "contains" ∷ codes "additionalProperties"
    ∷ codes "propertyNames" ∷ codes "additionalItems" ∷ []

abbrev pub with_list : List Text
with_list = codes "allOf" ∷ codes "anyOf" ∷ codes "oneOf" ∷ codes "prefixItems" ∷ []

abbrev pub keywords_with_names : List Text
keywords_with_names = codes "properties" ∷ codes "patternProperties" ∷ codes "$defs" ∷ codes "definitions" ∷ []

-- the keywords with a schema, and with a list of schemas, that judge the same object
abbrev pub with_same_object : List Text
with_same_object = codes "if" ∷ codes "then" ∷ codes "else" ∷ []

abbrev pub with_same_objects : List Text
with_same_objects = codes "allOf" ∷ codes "anyOf" ∷ codes "oneOf" ∷ []

abbrev pub place_under : Text → Place
place_under k =
    if is_listed k with_schema then OneSchema
    else if is_listed k with_list then SchemaList
    else if bytes_eq k (codes "items") then SchemaOrList
    else if is_listed k keywords_with_names then SchemasByName
    else NoSchemas

-- the references in a value, read in each way
pub record Found : Type 0 where
  pub in_schema : List Data
  pub in_list : List Data
  pub by_name : List Data

abbrev pub nothing_found : Found
nothing_found = record { in_schema = []; in_list = []; by_name = [] }

abbrev pub at_place : Place → Found → List Data
at_place NoSchemas f = []
at_place OneSchema f = f.in_schema
at_place SchemaList f = f.in_list
at_place SchemaOrList f = f.in_schema ++ f.in_list
at_place SchemasByName f = f.by_name

unfoldable mutual
  pub found_in : Data → Found
  found_in null = nothing_found
  found_in (boolean b) = nothing_found
  found_in (number n) = nothing_found
  found_in (string s) = nothing_found
  found_in (array ds) = record { in_schema = []; in_list = found_in_items ds; by_name = [] }
  found_in (object ms) = record { in_schema = found_in_keywords ms; in_list = []; by_name = found_in_members ms }

  pub found_in_items : Items → List Data
  found_in_items no_items = []
  found_in_items (item d ds) = (found_in d).in_schema ++ found_in_items ds

  pub found_in_members : Members → List Data
  found_in_members no_members = []
  found_in_members (member k d ms) = (found_in d).in_schema ++ found_in_members ms

  pub found_in_keywords : Members → List Data
  found_in_keywords no_members = []
  found_in_keywords (member k d ms) = (if bytes_eq k (codes "$ref") then d ∷ [] else at_place (place_under k) (found_in d))
      ++ found_in_keywords ms

abbrev pub references : Data → List Data
references d = (found_in d).in_schema

abbrev pub resolves : Data → Data → Bool
resolves document reference = is_some (option_and_then (resolved document) (as_str reference))

abbrev pub all_resolve : Data → List Data → Bool
all_resolve document [] = true
all_resolve document (r ∷ rs) = resolves document r && all_resolve document rs

-- every reference of the document resolves in it
abbrev pub ReferencesResolve : Data → Type 0
ReferencesResolve document = all_resolve document (references document) ≡ true
