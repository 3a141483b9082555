-- What becomes of a value when members are put into the object at a JSON Pointer in it (RFC 6901).
use Rattle.std.specs.Prelude.{◌==◌, List, [], ◌∷◌, map, if◌then◌else◌, Option, Some, None, option_map, option_and_then}
use Rattle.std.specs.List.{slice_split}
use Rattle.serde_json.specs.Data.{Data, null, boolean, number, string, array, object, Members, no_members, put}
use Rattle.serde_json.specs.Find.{unescape, get_member}
use Rattle.schemars_schema.specs.Json.{Text}
use Rattle.schemars_schema.specs.SchemaData.{put_members}
use Rattle.schemars_schema.specs.Edits.{replaced}

-- the parts between the `/`s, with `/` for `~1` and `~` for `~0`
abbrev pub tokens_in : Text → List Text
tokens_in text = map unescape (slice_split (λ b. b == 47) text)

-- the tokens after each `/` of a pointer; none where nothing can be placed
abbrev pub tokens_of : Text → Option (List Text)
tokens_of [] = None
tokens_of (x ∷ []) = None
tokens_of (x ∷ y ∷ rest) = if x == 47 then Some (tokens_in (y ∷ rest)) else None

-- the tokens after each `/` of a pointer, or of nothing
abbrev pub tokens_below : Text → List Text
tokens_below [] = []
tokens_below (x ∷ rest) = if x == 47 then tokens_in rest else []

-- the value with these members added to what the tokens lead to; where there is no value, an object is made
abbrev pub placed : List Text → Members → Option Data → Option Data
placed [] new None = Some (object new)
placed [] new (Some null) = None
placed [] new (Some (boolean b)) = None
placed [] new (Some (number n)) = None
placed [] new (Some (string s)) = None
placed [] new (Some (array ds)) = None
placed [] new (Some (object ms)) = Some (object (put_members new ms))
placed (t ∷ ts) new None = option_map (λ d. object (put t d no_members)) (placed ts new None)
placed (t ∷ ts) new (Some null) = None
placed (t ∷ ts) new (Some (boolean b)) = None
placed (t ∷ ts) new (Some (number n)) = None
placed (t ∷ ts) new (Some (string s)) = None
placed (t ∷ ts) new (Some (array ds)) = None
placed (t ∷ ts) new (Some (object ms)) = elim (get_member t ms) [
  | None ↦ option_map (λ d. object (put t d ms)) (placed ts new None)
  | Some e ↦ option_map (λ d. object (replaced t d ms)) (placed ts new (Some e))
]

-- the document with these members put into the object at a pointer
abbrev pub placed_at : Text → Members → Data → Option Data
placed_at pointer new d = option_and_then (λ tokens. placed tokens new (Some d)) (tokens_of pointer)
