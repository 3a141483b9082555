-- References that are followed, each once.
use Rattle.std.specs.Prelude.{◌≡◌, true, List, [], ◌++◌, Option, Some, None, Contains, String, string_bytes, bytes_eq}
use Rattle.std.specs.List.{list_any}
use Rattle.serde_json.specs.Data.{Data, Members}
use Rattle.schemars_schema.specs.Json.{Text}
use Rattle.schemars_readable.specs.Standing.{schemas_referred}

abbrev pub leads_to : Data → Option Text → List (Text × Members)
leads_to document None = []
leads_to document (Some reference) = schemas_referred document reference

-- these are among those
abbrev pub AreAmong : List (Text × Members) → List (Text × Members) → Type 0
AreAmong these those = (s : Text × Members) → Contains these s → Contains those s

-- what each of these references leads to is there
abbrev pub AreFollowed : {Y : Type 0} → Data → List (String Y) → List (Text × Members) → Type 0
AreFollowed document references there = (reference : Text)
    → list_any (λ r. bytes_eq reference (string_bytes r)) references ≡ true → AreAmong (schemas_referred document reference) there

-- some of these were added, and now all of them are there
abbrev pub IsGrown : List (Text × Members) → List (Text × Members) → List (Text × Members) → Type 0
IsGrown old new these = ((more : List (Text × Members)) × (new ≡ old ++ more) × AreAmong more these) × AreAmong these new
