-- The drafts of JSON Schema: what each promises of the documents that the transforms of its settings make.
use Rattle.std.specs.Prelude.{◌≡◌, ℕ, Some}
use Rattle.serde_json.specs.Data.{Data}
use Rattle.schemars_schema.specs.Json.{Text}
use Rattle.schemars_schema.specs.Verdict.{Yes}
use Rattle.schemars_schema.specs.Dialects.{Dialect, draft2020_12, draft2019_09, draft07}
use Rattle.schemars_schema.specs.Judges.{Patterns}
use Rattle.schemars_schema.specs.Acceptance.{accepts}
use Rattle.schemars_laws.specs.Laws.{for_draft07, for_draft2019_09}
use Rattle.schemars_sample.specs.Example.{Example}
use Rattle.schemars_sample.specs.SampleJson.{sample_json}
use Rattle.schemars_headline.specs.State.{State}
use Rattle.schemars_headline.specs.Headline.{IsDraftPath, RootHeadline}

pub data Draft : Type 0 where
  Draft2020_12 : Draft
  Draft2019_09 : Draft
  Draft07 : Draft

-- what a validator of the draft reads
abbrev pub dialect_of : Draft → Dialect
dialect_of Draft2020_12 = draft2020_12
dialect_of Draft2019_09 = draft2019_09
dialect_of Draft07 = draft07

-- what the transforms of the draft's settings make of a document
abbrev pub made_for : Draft → Data → Data
made_for Draft2020_12 document = document
made_for Draft2019_09 document = for_draft2019_09 document
made_for Draft07 document = for_draft07 document

-- the headline in each draft, for what is made for it of a root document of row n
abbrev pub DraftHeadlines : State → ℕ → Data → Type 0
DraftHeadlines s n document = (draft : Draft) → RootHeadline (dialect_of draft) s n (made_for draft document)

-- ---- examples

-- under every reading of patterns, however many references are followed, the document accepts under this dialect the example,
-- where it has a JSON form
abbrev pub AcceptsExampleUnder : Dialect → Example → Data → Type 0
AcceptsExampleUnder dialect x document =
    (patterns : Patterns) (followed : ℕ) (json : Data) → sample_json x ≡ Some json
    → accepts dialect document patterns followed document json ≡ Yes

-- the document of an example accepts it, whatever definitions are at this path, a draft's, beside it
abbrev pub SampleHeadline : Dialect → Text → Example → Data → Type 0
SampleHeadline dialect path x document = IsDraftPath path → AcceptsExampleUnder dialect x document

-- in each draft, for what is made for it of the root document of an example
abbrev pub DraftSamples : Text → Example → Data → Type 0
DraftSamples path x document = (draft : Draft) → SampleHeadline (dialect_of draft) path x (made_for draft document)
