-- What is promised of the JSON that serde writes for a value: the schemas of its type accept it.
use Rattle.std.specs.Prelude.{◌≡◌, ◌≤◌, ℕ, List, Some}
use Rattle.serde_json.specs.Data.{Data}
use Rattle.serde_json.specs.Read.{read}
use Rattle.schemars_schema.specs.Json.{Text}
use Rattle.schemars_schema.specs.Verdict.{Yes}
use Rattle.schemars_schema.specs.Dialects.{Dialect}
use Rattle.schemars_schema.specs.Judges.{Patterns}
use Rattle.schemars_schema.specs.Acceptance.{accepts, bound}
use Rattle.schemars_types.specs.Rows.{Row}
use Rattle.schemars_types.specs.declared.contract.Contract.TheVariants.{Serialize}
use Rattle.schemars_headline.specs.Headline.{AcceptsItsValues}
use Rattle.schemars_written.specs.Readings.{AnyReading}

-- Under each such reading of patterns, each schema of row n for what is written accepts the value: a document, or a schema in one that
-- accepts exactly the values of the row, as `MeansItsType`, `MeansItsTypeIn` and `MeansItsRow` say.
abbrev pub IsAcceptedUnder : (Patterns → Type 0) → List Row → ℕ → Data → Type 0
IsAcceptedUnder reading rows n v =
    (dialect : Dialect) (path : Text) (document schema : Data) → AcceptsItsValues dialect rows Serialize path n document schema
    → (patterns : Patterns) → reading patterns → (followed : ℕ) → bound path document v ≤ followed
    → accepts dialect document patterns followed schema v ≡ Yes

-- under each reading
abbrev pub IsAccepted : List Row → ℕ → Data → Type 0
IsAccepted rows n v = IsAcceptedUnder AnyReading rows n v

-- so does it accept what a text is read as
abbrev pub IsAcceptedAsRead : (Patterns → Type 0) → List Row → ℕ → Text → Type 0
IsAcceptedAsRead reading rows n text = (d : Data) → read text ≡ Some d → IsAcceptedUnder reading rows n d
