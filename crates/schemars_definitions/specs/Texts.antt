-- The text that a definition is written as.
use Rattle.std.specs.Prelude.{◌≡◌}
use Rattle.serde_json.specs.Data.{Data}
use Rattle.schemars_text.specs.OrderedText.{ordered_text}
use Rattle.schemars_schema.specs.Json.{Text, IsWholeJson}

-- the ordered text of a JSON value whose numbers are 64-bit whole numbers
abbrev pub IsWholeTextOf : Text → Data → Type 0
IsWholeTextOf text d = IsWholeJson d × (text ≡ ordered_text d)
