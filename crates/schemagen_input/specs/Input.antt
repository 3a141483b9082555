-- The table that a JSON value says, and its root.
use Rattle.std.specs.Prelude.{ℕ, List, [], ◌∷◌, Bool, true, false, ◌&&◌, not, nat_lt, length, Option, Some, None, map, option_map, option_and_then, if◌then◌else◌, bytes_eq, codes}
use Rattle.std.specs.List.{list_all, list_any}
use Rattle.std.specs.Option.{option_map_or}
use Rattle.serde_json.specs.Data.{Data, Items}
use Rattle.serde_json.specs.Find.{as_str, as_array}
use Rattle.schemars_schema.specs.Json.{Text}
use Rattle.schemars_shapes.specs.Shape.{Entry, numbers_of}
use Rattle.schemars_types.specs.Rows.{Row, with_entry}
use Rattle.schemagen_json.specs.Members.{has_only}
use Rattle.schemagen_shapes.specs.Forms.{needed_member, read_each, number_in}
use Rattle.schemagen_shapes.specs.Shapes.{entry_in}

-- ---- rows

abbrev pub row_names : List Text
row_names = codes "id" ∷ codes "name" ∷ codes "inline" ∷ codes "notes" ∷ codes "shape" ∷ []

-- a row that has no entry yet
abbrev pub unentered : Text → Text → Row
unentered id name = record { id = id; name = name; entry = None }

-- the id and the name that an object says
abbrev pub heading_in : Data → Option Row
heading_in d =
    if has_only row_names d
    then option_and_then (λ id. option_map (unentered id) (needed_member as_str (codes "name") d)) (needed_member as_str (codes "id") d)
    else None

-- the row that an object says
abbrev pub row_in : Data → Option Row
row_in d = option_and_then (λ r. option_map (λ e. with_entry e r) (entry_in d)) (heading_in d)

abbrev pub rows_in : Items → Option (List Row)
rows_in ds = read_each row_in ds

-- ---- tables

-- no two texts are the same
abbrev pub ids_differ : List Text → Bool
ids_differ [] = true
ids_differ (t ∷ ts) = not (list_any (λ u. bytes_eq u t) ts) && ids_differ ts

abbrev pub ids_of : List Row → List Text
ids_of rows = map (λ r. r.id) rows

-- every number in the entry is one of so many rows
abbrev pub refers_within : ℕ → Entry → Bool
refers_within count e = list_all (λ m. nat_lt m count) (numbers_of e.shape)

-- each row has an entry whose numbers are those of so many rows
abbrev pub all_fit : ℕ → List Row → Bool
all_fit count rows = list_all (λ r. option_map_or (refers_within count) r.entry false) rows

-- the rows of a table: the ids all differ, and every number in an entry is a row's
abbrev pub is_complete : List Row → Bool
is_complete rows = ids_differ (ids_of rows) && all_fit (length rows) rows

-- the names of a table's members; `$schema`, by which an editor finds what a table has to be, says nothing of it
abbrev pub table_names : List Text
table_names = codes "types" ∷ codes "root" ∷ codes "$schema" ∷ []

-- the rows that a value says, and the number that it says for the root
abbrev pub table_in : Data → Option (List Row × ℕ)
table_in d =
    if has_only table_names d
    then option_and_then (λ rows. option_and_then (λ root. if is_complete rows then Some (rows, root) else None)
    (needed_member number_in (codes "root") d)) (needed_member (λ e. option_and_then rows_in (as_array e)) (codes "types") d)
    else None

-- a table that has the root
abbrev pub is_table : List Row → ℕ → Bool
is_table rows root = is_complete rows && nat_lt root (length rows)

-- the rows and the root that a value says: the root is one of the rows
abbrev pub input_of : Data → Option (List Row × ℕ)
input_of d = option_and_then (λ t. if nat_lt t.1 (length t.0) then Some t else None) (table_in d)
