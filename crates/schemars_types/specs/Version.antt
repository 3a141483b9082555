-- Versions as texts (https://semver.org).
use Rattle.std.specs.Prelude.{[], ◌∷◌, ◌++◌, codes}
use Rattle.serde_json.specs.Data.{Data, string}
use Rattle.schemars_schema.specs.Json.{Text}
use Rattle.schemars_schema.specs.SchemaData.{object_of}

-- three numbers, behind a `-` parts of a pre-release, and behind a `+` parts of a build
abbrev pub version_pattern : Text
version_pattern = codes "^(0|[1-9]\\d*)\\.(0|[1-9]\\d*)\\.(0|[1-9]\\d*)"
    ++ (codes "(?:-((?:0|[1-9]\\d*|\\d*[a-zA-Z-][0-9a-zA-Z-]*)(?:\\.(?:0|[1-9]\\d*|\\d*[a-zA-Z-][0-9a-zA-Z-]*))*))?"
    ++ codes "(?:\\+([0-9a-zA-Z-]+(?:\\.[0-9a-zA-Z-]+)*))?$")

abbrev pub version_schema : Data
version_schema = object_of ((codes "type", string (codes "string")) ∷ (codes "pattern", string version_pattern) ∷ [])
