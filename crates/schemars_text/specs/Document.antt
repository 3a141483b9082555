-- What is written: a schema, or definitions.
use Rattle.std.specs.Prelude.{Bool}
use Rattle.serde_json.specs.View.{view, members_view}
use Rattle.serde_json.specs.Written.{has_float, members_have_float}
use Rattle.schemars_text.specs.Text.{Text}
use Rattle.schemars_text.specs.OrderedText.{ordered_text, definitions_text}
use Rattle.schemars_text.specs.declared.writing.Document.{Document}
use Rattle.schemars_text.specs.declared.writing.Document.TheVariants.{Schema, Definitions}

abbrev pub has_floats : Document → Bool
has_floats (Schema value) = has_float (view value.now)
has_floats (Definitions definitions) = members_have_float (members_view definitions.now.entries)

abbrev pub text_of : Document → Text
text_of (Schema value) = ordered_text (view value.now)
text_of (Definitions definitions) = definitions_text (members_view definitions.now.entries)
