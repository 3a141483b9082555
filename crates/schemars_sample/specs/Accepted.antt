-- What the schema of an example promises.
use Rattle.std.specs.Prelude.{◌≡◌, Some}
use Rattle.serde_json.specs.Data.{Data}
use Rattle.schemars_schema.specs.Json.{Text}
use Rattle.schemars_schema.specs.Verdict.{Yes}
use Rattle.schemars_schema.specs.Judges.{Patterns, Judge}
use Rattle.schemars_schema.specs.Acceptance.{judge}
use Rattle.schemars_builders.specs.NullLaw.{context2020_12}
use Rattle.schemars_sample.specs.Example.{Example}
use Rattle.schemars_sample.specs.SampleJson.{sample_json}

-- under 2020-12, wherever references lead and whatever patterns match, the schema accepts the example, where it has a JSON form
abbrev pub AcceptsExample : Example → Data → Type 0
AcceptsExample x s =
    (patterns : Patterns) (follow : Text → Judge) (json : Data) → sample_json x ≡ Some json
    → (judge (context2020_12 patterns follow) s).fits json ≡ Yes
