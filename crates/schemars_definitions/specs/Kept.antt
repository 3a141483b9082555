-- The definitions that are kept.
use Rattle.std.specs.Prelude.{◌≡◌, ⊤, false, length, List, [], ◌∷◌, String, string_bytes, Option, Some, option_and_then, unwrap_or}
use Rattle.std.specs.declared.alloc.Global.{Global}
use Rattle.json.specs.Lex.{tokens}
use Rattle.json.specs.Json as json
use Rattle.serde_json.specs.Data.{Data, null, boolean, Members}
use Rattle.serde_json.specs.Read.{of_json}
use Rattle.serde_json.specs.Written.{has_float}
use Rattle.schemars_schema.specs.Json.{Text}
use Rattle.schemars_text.specs.OrderedText.{ordered_text}
use Rattle.schemars_definitions.specs.Entries.{members_by, members_put}
use Rattle.schemars_definitions.specs.declared.kept.Kept.{Kept}
use Rattle.schemars_definitions.specs.declared.kept.Kept.TheVariants as kept

-- the value that is written in a text, however deep it nests
abbrev pub parsed : Text → Option Data
parsed text = option_and_then of_json (option_and_then (λ p. json.if_last p.0 p.1) (json.value (length (tokens text)) (tokens text)))

-- the definition that is kept in this way: a text is kept for the value that is written in it
abbrev pub definition_in : Kept → Data
definition_in kept.Begun = boolean false
definition_in (kept.Text text) = unwrap_or (parsed (string_bytes text)) null
definition_in (kept.Changed before after) = unwrap_or (parsed (string_bytes before)) null
definition_in (kept.Value schema) = schema

abbrev pub definitions_in : List (String Global × Kept) → Members
definitions_in es = members_by definition_in es

-- the definitions in the order of their names
abbrev pub definitions_by_name : List (String Global × Kept) → Members
definitions_by_name es = members_put definition_in es

-- a text is the ordered text of the value that is written in it
abbrev pub IsTextOf : Text → Data → Type 0
IsTextOf text d = (parsed text ≡ Some d) × (text ≡ ordered_text d)

-- a text that is kept is that of the definition, which stays as it is, or goes with that of what is made of it
abbrev pub IsOrdered : (Data → Data) → Kept → Type 0
IsOrdered made kept.Begun = ⊤
IsOrdered made (kept.Text text) = (d : Data) × IsTextOf (string_bytes text) d × (made d ≡ d)
IsOrdered made (kept.Changed before after) =
    (d : Data) × IsTextOf (string_bytes before) d × (has_float (made d) ≡ false → string_bytes after ≡ ordered_text (made d))
IsOrdered made (kept.Value schema) = ⊤

abbrev pub AreOrdered : (Data → Data) → List (String Global × Kept) → Type 0
AreOrdered made [] = ⊤
AreOrdered made (e ∷ es) = IsOrdered made e.1 × AreOrdered made es
