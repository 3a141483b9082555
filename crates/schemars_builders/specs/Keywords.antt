-- Keywords that are put into a schema where they say something.
use Rattle.std.specs.Prelude.{◌&&◌, ◌||◌, Bool, false, Option, Some, None, [], ◌∷◌, if◌then◌else◌, bytes_eq, codes}
use Rattle.serde_json.specs.Data.{Data, null, boolean, number, string, array, object}
use Rattle.serde_json.specs.Find.{get}
use Rattle.schemars_schema.specs.Json.{Text}
use Rattle.schemars_schema.specs.SchemaData.{inserted}
use Rattle.schemars_schema.specs.Edits.{holds_text}

-- with this text at k, unless it is empty
abbrev pub with_metadata : Text → Text → Data → Data
with_metadata k [] schema = schema
with_metadata k (b ∷ bs) schema = inserted k (string (b ∷ bs)) schema

-- a type is a name, or a list of names
abbrev pub names_type : Text → Option Data → Bool
names_type name None = false
names_type name (Some null) = false
names_type name (Some (boolean b)) = false
names_type name (Some (number n)) = false
names_type name (Some (string t)) = bytes_eq t name
names_type name (Some (array ds)) = holds_text name ds
names_type name (Some (object ms)) = false

abbrev pub includes_type : Text → Data → Bool
includes_type name schema = names_type name (get (codes "type") schema)

-- whole numbers are numbers
abbrev pub validates : Text → Data → Bool
validates name schema = includes_type name schema || (bytes_eq name (codes "number") && includes_type (codes "integer") schema)

-- with d at k, where the schema is one of values of this type
abbrev pub with_validation : Text → Text → Data → Data → Data
with_validation name k d schema = if validates name schema then inserted k d schema else schema
