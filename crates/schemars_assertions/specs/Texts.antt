-- The texts in a list.
use Rattle.std.specs.Prelude.{◌&&◌, Bool, true, is_some, Option, Some, None, List, [], ◌∷◌}
use Rattle.serde_json.specs.Data.{Items, no_items, item}
use Rattle.serde_json.specs.Find.{as_str}
use Rattle.schemars_schema.specs.Json.{Text}

abbrev pub are_texts : Items → Bool
are_texts no_items = true
are_texts (item d ds) = is_some (as_str d) && are_texts ds

abbrev pub with_text : Option Text → List Text → List Text
with_text None ts = ts
with_text (Some t) ts = t ∷ ts

-- those of the items that are texts
abbrev pub texts_of : Items → List Text
texts_of no_items = []
texts_of (item d ds) = with_text (as_str d) (texts_of ds)
