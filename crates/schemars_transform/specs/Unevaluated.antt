-- `additionalProperties` in place of `unevaluatedProperties`, and the names that it must not judge.
use Rattle.std.specs.Prelude.{List, [], ◌∷◌, ◌++◌, Option, Some, None, true, if◌then◌else◌, codes, bytes_eq}
use Rattle.serde_json.specs.Data.{Data, null, boolean, number, string, array, object, Items, no_items, item, Members, no_members, member}
use Rattle.serde_json.specs.Find.{get}
use Rattle.schemars_schema.specs.Json.{Text}
use Rattle.schemars_text.specs.OrderedText.{is_listed}
use Rattle.schemars_schema.specs.SchemaData.{inserted}
use Rattle.schemars_schema.specs.Edits.{removed, put_missing}
use Rattle.schemars_schema.specs.References.{with_same_object, with_same_objects}
use Rattle.schemars_walk.specs.Rewritten.{all_changed}

abbrev pub keys : Members → List Text
keys no_members = []
keys (member k d ms) = k ∷ keys ms

abbrev pub keys_in : Data → List Text
keys_in null = []
keys_in (boolean b) = []
keys_in (number n) = []
keys_in (string s) = []
keys_in (array ds) = []
keys_in (object ms) = keys ms

-- the names in a value, read as a schema and as a list of schemas
pub record Names : Type 0 where
  pub in_schema : List Text
  pub in_list : List Text

abbrev pub no_names : Names
no_names = record { in_schema = []; in_list = [] }

-- the names in the value at a keyword
abbrev pub names_under : Text → Data → Names → List Text
names_under k d n =
    if bytes_eq k (codes "properties") then keys_in d
    else if is_listed k with_same_object then n.in_schema
    else if is_listed k with_same_objects then n.in_list
    else []

unfoldable mutual
  pub names_in : Data → Names
  names_in null = no_names
  names_in (boolean b) = no_names
  names_in (number n) = no_names
  names_in (string s) = no_names
  names_in (array ds) = record { in_schema = []; in_list = names_in_items ds }
  names_in (object ms) = record { in_schema = names_in_keywords ms; in_list = [] }

  pub names_in_items : Items → List Text
  names_in_items no_items = []
  names_in_items (item d ds) = (names_in d).in_schema ++ names_in_items ds

  pub names_in_keywords : Members → List Text
  names_in_keywords no_members = []
  names_in_keywords (member k d ms) = names_under k d (names_in d) ++ names_in_keywords ms

-- the names under `properties` in a schema and in its subschemas that judge the same object, at any depth
abbrev pub property_names : Data → List Text
property_names s = (names_in s).in_schema

-- each name accepts everything, where it is missing
abbrev pub with_names : List Text → Members → Members
with_names [] ms = ms
with_names (k ∷ ks) ms = with_names ks (put_missing k (boolean true) ms)

abbrev pub object_with_names : List Text → Data → Data
object_with_names ks null = null
object_with_names ks (boolean b) = boolean b
object_with_names ks (number n) = number n
object_with_names ks (string s) = string s
object_with_names ks (array ds) = array ds
object_with_names ks (object ms) = object (with_names ks ms)

-- `properties` with these names; it is not made if there is no name, and stays if it is not an object
abbrev pub properties_made : Members → Data → Data
properties_made no_members s = s
properties_made (member k d ms) s = inserted (codes "properties") (object (member k d ms)) s

abbrev pub properties_named : List Text → Option Data → Data → Data
properties_named ks None s = properties_made (with_names ks no_members) s
properties_named ks (Some properties) s = inserted (codes "properties") (object_with_names ks properties) s

-- the names in the subschemas go into `properties`
abbrev pub with_properties : Data → Data
with_properties s =
    properties_named (property_names (removed (codes "properties") s)) (get (codes "properties") s) (removed (codes "properties") s)

abbrev pub closed_by : Option Data → Data → Data
closed_by None s = s
closed_by (Some rest) s = with_properties (inserted (codes "additionalProperties") rest s)

-- one schema
abbrev pub unevaluated_as_additional : Data → Data
unevaluated_as_additional s = closed_by (get (codes "unevaluatedProperties") s) (removed (codes "unevaluatedProperties") s)

-- a schema and all schemas inside it
abbrev pub replace_unevaluated_properties : Data → Data
replace_unevaluated_properties s = all_changed unevaluated_as_additional s
