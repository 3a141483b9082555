-- Whether a table begins with the rows of another, and tables without decimals in their notes.
use Rattle.std.specs.Prelude.{List, [], ◌∷◌, Bool, true, false, ◌&&◌, ◌||◌, bytes_eq}
use Rattle.std.specs.Option.{option_eq, option_map_or}
use Rattle.schemars_shapes.specs.Decimals.{entry_has_float}
use Rattle.schemars_shapes.specs.Equality.{entry_eq}
use Rattle.schemars_types.specs.Rows.{Row}

-- the same id and name, and equal entries, or none
abbrev pub row_eq : Row → Row → Bool
row_eq r s = bytes_eq r.id s.id && (bytes_eq r.name s.name && option_eq entry_eq r.entry s.entry)

-- the first rows equal those of `first`, one by one
abbrev pub begins_with : List Row → List Row → Bool
begins_with rows [] = true
begins_with [] (f ∷ first) = false
begins_with (r ∷ rows) (f ∷ first) = row_eq r f && begins_with rows first

-- ---- decimals

-- a number that is not a 64-bit whole number occurs in the notes of a row
abbrev pub rows_have_float : List Row → Bool
rows_have_float [] = false
rows_have_float (r ∷ rs) = option_map_or entry_has_float r.entry false || rows_have_float rs
