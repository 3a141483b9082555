-- The schemas of an enum's variants.
use Rattle.std.specs.Prelude.{[], ◌∷◌, false, codes}
use Rattle.serde_json.specs.Data.{Data, boolean, string, array, no_items, item}
use Rattle.schemars_schema.specs.Json.{Text}
use Rattle.schemars_schema.specs.SchemaData.{object_of}

-- the name of a unit, as a text
abbrev pub unit_variant : Text → Data
unit_variant name = object_of ((codes "type", string (codes "string")) ∷ (codes "const", string name) ∷ [])

-- a map with the variant's name as its one key, and this schema under it
abbrev pub externally_tagged_variant : Text → Data → Data
externally_tagged_variant name schema = object_of (
    (codes "type", string (codes "object")) ∷ (codes "properties", object_of ((name, schema) ∷ []))
    ∷ (codes "required", array (item (string name) no_items)) ∷ (codes "additionalProperties", boolean false) ∷ []
    )
