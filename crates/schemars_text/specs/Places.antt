-- The place of a key in a list.
use Rattle.std.specs.Prelude.{ℕ, suc, List, [], ◌∷◌, Option, Some, None, option_map, if◌then◌else◌, bytes_eq}
use Rattle.schemars_text.specs.Text.{Text}

-- at what index, if it is listed
abbrev pub place_in : Text → List Text → Option ℕ
place_in k [] = None
place_in k (l ∷ ls) = if bytes_eq k l then Some 0 else option_map suc (place_in k ls)
