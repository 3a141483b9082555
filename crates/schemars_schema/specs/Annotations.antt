-- Keywords that say nothing of a value (JSON Schema validation, section 9), and those that do.
use Rattle.std.specs.Prelude.{◌≡◌, ◌||◌, List, [], ◌∷◌, Bool, true, codes, nat_eq}
use Rattle.std.specs.List.{starts_with}
use Rattle.serde_json.specs.Data.{Members, no_members, member}
use Rattle.schemars_schema.specs.Json.{Text}
use Rattle.schemars_text.specs.OrderedText.{is_listed}

abbrev pub is_annotation : Text → Bool
is_annotation k =
    is_listed k (codes "title" ∷ codes "description" ∷ codes "format" ∷ codes "default" ∷ codes "examples" ∷ codes "deprecated"
    ∷ codes "readOnly" ∷ codes "writeOnly" ∷ [])
    || starts_with nat_eq k (codes "x-")

-- a map of annotations alone
abbrev pub AreNotes : Members → Type 0
AreNotes no_members = Unit {0}
AreNotes (member k d ms) = (is_annotation k ≡ true) × AreNotes ms

-- the keywords that are read
abbrev pub keyword_names : List Text
keyword_names =
    codes "$ref" ∷ codes "type" ∷ codes "nullable" ∷ codes "const" ∷ codes "enum" ∷ codes "minimum" ∷ codes "maximum" ∷ codes "minLength"
    ∷ codes "maxLength" ∷ codes "pattern"
    ∷ codes "minItems" ∷ codes "maxItems" ∷ codes "uniqueItems" ∷ codes "prefixItems" ∷ codes "items" ∷ codes "additionalItems"
    ∷ codes "required" ∷ codes "properties"
    ∷ codes "patternProperties" ∷ codes "additionalProperties" ∷ codes "allOf" ∷ codes "anyOf" ∷ codes "oneOf" ∷ codes "not"
    ∷ codes "unevaluatedProperties" ∷ codes "exclusiveMinimum" ∷ codes "exclusiveMaximum" ∷ codes "contains" ∷ codes "minContains"
    ∷ codes "maxContains"
    ∷ codes "minProperties" ∷ codes "maxProperties" ∷ codes "dependentRequired" ∷ codes "dependentSchemas"
    ∷ codes "propertyNames" ∷ codes "if" ∷ codes "then"
    ∷ codes "else" ∷ codes "multipleOf" ∷ codes "dependencies" ∷ codes "unevaluatedItems" ∷ []
