-- Floats: any number, with a format that tells how many digits are kept (OpenAPI 3.0.3, Data Types).
use Rattle.std.specs.Prelude.{[], ◌∷◌, codes}
use Rattle.serde_json.specs.Data.{Data, string}
use Rattle.schemars_schema.specs.Json.{Text}
use Rattle.schemars_schema.specs.SchemaData.{object_of}

abbrev pub float_schema : Text → Data
float_schema format = object_of ((codes "type", string (codes "number")) ∷ (codes "format", string format) ∷ [])
