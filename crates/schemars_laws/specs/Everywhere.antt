-- What holds of every schema object that a walk over a schema reaches.
use Rattle.serde_json.specs.Data.{Data, null, boolean, number, string, array, object, Items, no_items, item, Members, no_members, member}
use Rattle.schemars_schema.specs.References.{Place, NoSchemas, OneSchema, SchemaList, SchemaOrList, SchemasByName, place_under}

-- what is asked of what stands somewhere, read as a schema, as a list of schemas, and as schemas by name
pub record Asked : Type 1 where
  pub as_schema : Type 0
  pub as_list : Type 0
  pub by_name : Type 0

abbrev pub nothing_asked : Asked
nothing_asked = record { as_schema = Unit {0}; as_list = Unit {0}; by_name = Unit {0} }

abbrev pub demanded : Place → Asked → Type 0
demanded NoSchemas a = Unit {0}
demanded OneSchema a = a.as_schema
demanded SchemaList a = a.as_list
demanded SchemaOrList a = a.as_schema × a.as_list
demanded SchemasByName a = a.by_name

unfoldable mutual
  pub asked : (Members → Type 0) → Data → Asked
  asked P null = nothing_asked
  asked P (boolean b) = nothing_asked
  asked P (number n) = nothing_asked
  asked P (string s) = nothing_asked
  asked P (array ds) = record { as_schema = Unit {0}; as_list = asked_of_items P ds; by_name = Unit {0} }
  asked P (object ms) = record { as_schema = P ms × asked_of_keywords P ms; as_list = Unit {0}; by_name = asked_of_members P ms }

  pub asked_of_items : (Members → Type 0) → Items → Type 0
  asked_of_items P no_items = Unit {0}
  asked_of_items P (item d ds) = (asked P d).as_schema × asked_of_items P ds

  pub asked_of_members : (Members → Type 0) → Members → Type 0
  asked_of_members P no_members = Unit {0}
  asked_of_members P (member k d ms) = (asked P d).as_schema × asked_of_members P ms

  pub asked_of_keywords : (Members → Type 0) → Members → Type 0
  asked_of_keywords P no_members = Unit {0}
  asked_of_keywords P (member k d ms) = demanded (place_under k) (asked P d) × asked_of_keywords P ms

-- P holds of the members of the schema, where it is an object, and of those of each schema inside it
abbrev pub Everywhere : (Members → Type 0) → Data → Type 0
Everywhere P d = (asked P d).as_schema
