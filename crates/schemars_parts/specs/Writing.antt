-- What is written, unless there are floats: a part, a member, or several members.
use Rattle.std.specs.Prelude.{◌≡◌, List, ◌∷◌, ◌++◌, false}
use Rattle.json.specs.Print.{quoted}
use Rattle.serde_json.specs.Data.{Data, Members}
use Rattle.serde_json.specs.Written.{has_float, members_have_float}
use Rattle.schemars_text.specs.Text.{Text}
use Rattle.schemars_text.specs.OrderedText.{Layout, Written, layout_under, text_in, texts}
use Rattle.schemars_text.specs.Output.{Output, with_value, with_values}

abbrev pub IsWritten : Output → Output → Layout → Data → Type 0
IsWritten old new layout d = has_float d ≡ false → new ≡ with_value old (text_in layout d)

abbrev pub IsMember : Output → Output → Layout → Text → Data → Type 0
IsMember old new layout k d = has_float d ≡ false → new ≡ with_value old (quoted k ++ 58 ∷ text_in (layout_under layout k) d)

abbrev pub AreWritten : Output → Output → Members → List Written → Type 0
AreWritten old new ms ws = members_have_float ms ≡ false → new ≡ with_values old (texts ws)
