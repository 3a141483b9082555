-- Rows that a type of one's own is made of besides those of other types: its own, and those that are made of it.
use Rattle.std.specs.Prelude.{◌≡◌, ◌⊎◌, ◌++◌, ◌<◌, ℕ, false, List, [], ◌∷◌, Some, IsSome, is_some, length, find, nat_le, option_map, if◌then◌else◌}
use Rattle.schemars_schema.specs.Json.{Text}
use Rattle.schemars_shapes.specs.Shape.{Entry, in_place, option, seq, set, array_of, map_from}
use Rattle.schemars_types.specs.declared.error.TypesError.{TypesError}
use Rattle.schemars_types.specs.declared.error.TypesError.TheVariants.{OutOfMemory, UnknownType}
use Rattle.schemars_types.specs.Names.{option_id, option_name, seq_id, seq_name, set_id, set_name, array_id, array_name, map_id, map_name}
use Rattle.schemars_types.specs.Rows.{Row, place_of, name_at, reserved}
use Rattle.schemars_impls.specs.Describes.{Unsaid}
use Rattle.schemars_impls.specs.Dictionary.{Dictionary, Told, TypeRow, IsIn, IsTold, IsNamed, IsLeft}
use Rattle.schemars_impls.specs.Containers.{option_row, seq_row, set_row, array_row, map_row}
use Rattle.schemars_impls.specs.Keeps.{Keeps}

-- want of memory, or the first of these numbers that is not that of a row
pub record RefusesNumbers (rows : List Row) (ns : List ℕ) (e : TypesError) : Type 0 where
  pub cause : (e ≡ OutOfMemory) ⊎ (option_map UnknownType (find (λ m. nat_le (length rows) m) ns) ≡ Some e)

-- ---- what the table has

-- the number of a row
pub record IsNumber (rows : List Row) (n : ℕ) : Type 0 where
  pub below : n < length rows

-- a new id is added at the end, with this name and entry; an id that is there keeps its row
abbrev pub with_row : Text → Text → Entry → List Row → List Row
with_row id name e rows = if is_some (place_of id rows) then rows else rows ++ (record { id = id; name = name; entry = Some e }) ∷ []

-- The row with this id has number n. If there was none, it was added.
pub record HasRow (id name : Text) (e : Entry) (old new : List Row) (n : ℕ) : Type 0 where
  pub number : place_of id new ≡ Some n
  pub table : new ≡ with_row id name e old

-- First the row with the id `id` was reserved, under this name if it is new, and has number `part`. Row n is made of it: its id and its
-- entry are these, and so is its name if it is new.
pub record HasRowOf (id name made_id : Text) (made_name : Text → Text) (make : ℕ → Entry) (old new : List Row) (n : ℕ) : Type 0 where
  pub part : ℕ
  pub place : place_of id (reserved id name old) ≡ Some part
  pub has : HasRow made_id (made_name (name_at (reserved id name old) part)) (make part) (reserved id name old) new n

abbrev pub HasOptionOf : Text → Text → List Row → List Row → ℕ → Type 0
HasOptionOf id name = HasRowOf id name (option_id id) option_name (λ k. in_place (option k))

abbrev pub HasSeqOf : Text → Text → List Row → List Row → ℕ → Type 0
HasSeqOf id name = HasRowOf id name (seq_id id) seq_name (λ k. in_place (seq k))

abbrev pub HasSetOf : Text → Text → List Row → List Row → ℕ → Type 0
HasSetOf id name = HasRowOf id name (set_id id) set_name (λ k. in_place (set k))

-- the same of an array, as one fact, into which search does not look
unfoldable pub HasArrayOf : ℕ → Text → Text → List Row → List Row → ℕ → Type 0
HasArrayOf len id name old new n =
    HasRowOf id name (array_id id len) (λ x. array_name x len) (λ k. in_place (array_of k len)) old new n

-- First the type of the keys was registered, which gave these rows, and it has number `key_number`. Row n is that of maps from it to the
-- row with the id `id`.
pub record HasMapOf (key : TypeRow) (id name : Text) (old new : List Row) (n : ℕ) : Type 0 where
  pub rows : List Row
  pub key_number : ℕ
  pub keeps : Keeps old rows
  pub key_place : place_of key.id rows ≡ Some key_number
  pub has : HasRowOf id name (map_id key.id id) (λ x. map_name key.id (name_at (reserved id name rows) key_number) x)
      (λ k. in_place (map_from key_number k)) rows new n

-- ---- what a dictionary has to say of them

-- The row may be left without an entry. This name is told of it, or nothing.
pub record IsReserved (id name : Text) (d : Dictionary) : Type 0 where
  pub left : IsLeft (d.stage id)
  pub named : IsNamed (d.told id) name

-- This name is told of it.
pub record IsCalled (id name : Text) (d : Dictionary) : Type 0 where
  pub told : Told
  pub is : d.told id ≡ Some told
  pub named : told.name ≡ name

-- a row of which the id and the name are known
abbrev pub called : Text → Text → TypeRow
called id name = record { id = id; name = name; inline = false; making = Unsaid; parts = λ d. Unit {0} }

-- The row with this id is reserved. If anything is told of the row of type t, which is made of it, then what the type says; and this
-- name is told of the reserved row.
pub record IsMadeOf (t : TypeRow) (id name : Text) (d : Dictionary) : Type 0 where
  pub own : IsReserved id name d
  pub told : IsTold (d.told t.id) t
  pub part : IsSome (d.told t.id) → IsCalled id name d

-- the rows of options, lists, sets and arrays of it, each as one fact
unfoldable pub IsOptionOf : Text → Text → Dictionary → Type 0
IsOptionOf id name d = IsMadeOf (option_row (called id name)) id name d

unfoldable pub IsSeqOf : Text → Text → Dictionary → Type 0
IsSeqOf id name d = IsMadeOf (seq_row (called id name)) id name d

unfoldable pub IsSetOf : Text → Text → Dictionary → Type 0
IsSetOf id name d = IsMadeOf (set_row (called id name)) id name d

unfoldable pub IsArrayOf : ℕ → Text → Text → Dictionary → Type 0
IsArrayOf len id name d = IsMadeOf (array_row (called id name) len) id name d

-- The type of the keys is in the dictionary. If anything is told of the row of maps from it, then also the name of the keys' row.
pub record HasMap (key : TypeRow) (id name : Text) (d : Dictionary) : Type 0 where
  pub keys : IsIn key d
  pub made : IsMadeOf (map_row key (called id name)) id name d
  pub named : IsSome (d.told (map_id key.id id)) → IsCalled key.id key.name d

unfoldable pub IsMapOf : TypeRow → Text → Text → Dictionary → Type 0
IsMapOf key id name d = HasMap key id name d
