-- A table as the list of its rows.
-- This file is trusted: the theorem is stated in its words.
use Rattle.std.specs.Prelude.{ℕ, zero, suc, ◌++◌, List, [], ◌∷◌, Bool, false, not, nat_le, length, find, Option, Some, None, map, is_some, slice_get, option_and_then, if◌then◌else◌, bytes_eq}
use Rattle.std.specs.List.{position_from, IsDistinct}
use Rattle.std.specs.Option.{option_map_or}
use Rattle.schemars_schema.specs.Json.{Text}
use Rattle.schemars_shapes.specs.Shape.{Shape, Entry, numbers_of}
use Rattle.schemars_shapes.specs.Equality.{entry_eq}

pub record Row : Type 0 where
  pub id : Text
  pub name : Text
  pub entry : Option Entry

-- the number of an id
abbrev pub place_of : Text → List Row → Option ℕ
place_of id rows = position_from (λ r. bytes_eq r.id id) 0 rows

abbrev pub entry_at : List Row → ℕ → Option Entry
entry_at rows n = option_and_then (λ r. r.entry) (slice_get rows n)

-- the texts of row n, or the empty text if there is no such row
abbrev pub id_at : List Row → ℕ → Text
id_at rows n = option_map_or (λ r. r.id) (slice_get rows n) []

abbrev pub name_at : List Row → ℕ → Text
name_at rows n = option_map_or (λ r. r.name) (slice_get rows n) []

-- no two rows have one id
abbrev pub HasDistinctIds : List Row → Type 0
HasDistinctIds rows = IsDistinct bytes_eq (map (λ r. r.id) rows)

-- the first number in a shape that is not the number of a row
abbrev pub unknown_in : List Row → Shape → Option ℕ
unknown_in rows s = find (λ m. nat_le (length rows) m) (numbers_of s)

-- row n has an entry, and it differs from this one
abbrev pub holds_another : List Row → ℕ → Entry → Bool
holds_another rows n e = option_map_or (λ f. not (entry_eq f e)) (entry_at rows n) false

-- a new id is added at the end; an id that is there keeps its row
abbrev pub reserved : Text → Text → List Row → List Row
reserved id name rows = if is_some (place_of id rows) then rows else rows ++ (record { id = id; name = name; entry = None }) ∷ []

abbrev pub with_entry : Entry → Row → Row
with_entry e r = record r { entry = Some e }

-- row n alone has this entry now
abbrev pub defined : ℕ → Entry → List Row → List Row
defined n e [] = []
defined zero e (r ∷ rs) = with_entry e r ∷ rs
defined (suc n) e (r ∷ rs) = r ∷ defined n e rs
