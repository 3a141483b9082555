-- JSON text that is being written, value by value.
use Rattle.std.specs.Prelude.{List, [], ◌∷◌, ◌++◌, Bool, true}
use Rattle.json.specs.Token.{Token}
use Rattle.json.specs.Print.{token_text, separator, ends}
use Rattle.serde_json.specs.Written.{comma_if}
use Rattle.schemars_text.specs.Text.{Text}
use Rattle.schemars_text.specs.OrderedText as ordered
use Rattle.schemars_text.specs.declared.ordered.Layout.{Layout}
use Rattle.schemars_text.specs.declared.ordered.Layout.TheVariants.{PlainJson, Schema, NamedSchemas}

-- the text so far, and whether a value has just ended, so that a comma comes before the next
pub record Output : Type 0 where
  pub text : Text
  pub after_value : Bool

abbrev pub with_token : Output → Token → Output
with_token o t = record { text = o.text ++ (separator o.after_value t ++ token_text t); after_value = ends t }

-- with one more value or member
abbrev pub with_value : Output → Text → Output
with_value o t = record { text = o.text ++ (comma_if o.after_value ++ t); after_value = true }

abbrev pub with_values : Output → List Text → Output
with_values o [] = o
with_values o (t ∷ ts) = with_values (with_value o t) ts

-- the way of writing that the program's word stands for
abbrev pub layout_meant : Layout → ordered.Layout
layout_meant PlainJson = ordered.PlainJson
layout_meant Schema = ordered.SchemaLayout
layout_meant NamedSchemas = ordered.NamedSchemas
