-- The line of an output.
use Rattle.std.specs.Prelude.{◌≡◌, ◌++◌, ◌∷◌, [], ℕ, List, Bool, false, true, string_bytes}
use Rattle.serde_json.specs.Written.{has_float}
use Rattle.schemars_schema.specs.Json as json
use Rattle.schemars_text.specs.OrderedText.{ordered_text}
use Rattle.schemars_types.specs.Rows.{Row}
use Rattle.schemars_types.specs.Faults.{IsAccepted}
use Rattle.schemars_transform.specs.declared.no_transform.NoTransform.{NoTransform}
use Rattle.schemars_generate.specs.Generator.{Generator, state, transforms_of}
use Rattle.schemagen_input.specs.Input.{is_table}
use Rattle.schemagen_run.specs.declared.words.Asked.{Asked}
use Rattle.schemagen_run.specs.declared.output.Output.{Output}
use Rattle.schemagen_run.specs.declared.output.Output.TheVariants.{Document, Text}
use Rattle.schemagen_run.specs.Run.{IsLineOf, fresh, transforms_of_dialect}

abbrev pub output_has_float : Output → Bool
output_has_float (Document d) = has_float d
output_has_float (Text s) = false

abbrev pub output_text : Output → json.Text
output_text (Document d) = ordered_text d
output_text (Text s) = string_bytes s

-- its text in order, where the numbers in it are whole, and a newline
abbrev pub IsOutputLine : Output → json.Text → Type 0
IsOutputLine output line =
    (text : json.Text) × (output_has_float output ≡ false → text ≡ output_text output) × (line ≡ text ++ 10 ∷ [])

-- its line is the line of this row
abbrev pub IsOutputOf : Asked → List Row → ℕ → Output → Type 0
IsOutputOf asked rows root output = (line : json.Text) → IsOutputLine output line → IsLineOf asked rows root line

-- a generator for what is asked that has made nothing yet, over an accepted table that has this row
pub record IsFreshFor (asked : Asked) (g : Generator NoTransform) (root : ℕ) : Type 0 where
  pub fresh : state g ≡ fresh asked g.rows
  pub transforms : transforms_of g ≡ transforms_of_dialect asked.dialect
  pub table : is_table g.rows root ≡ true
  pub accepted : IsAccepted g.rows
