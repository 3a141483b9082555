-- Dictionaries that tell the rows of a type and of its parts, and tables whose rows are as they tell.
use Rattle.std.specs.Prelude.{◌≡◌, ◌⊎◌, ℕ, Bool, true, false, List, [], ◌∷◌, Option, Some, None, bytes_eq, if◌then◌else◌}
use Rattle.schemars_schema.specs.Json.{Text}
use Rattle.schemars_types.specs.Rows.{Row, place_of, entry_at}
use Rattle.schemars_types.specs.Faults.{Refusal}
use Rattle.schemars_types.specs.declared.error.TypesError.{TypesError}
use Rattle.schemars_types.specs.declared.error.TypesError.TheVariants.{OutOfMemory}
use Rattle.schemars_impls.specs.Dictionary.{Dictionary, Told, TypeRow, told_of, IsFree, IsEntryOf, Follows, IsAdded, IsIn, KeepsTo, Open, Pending, RefusesType, staged}
use Rattle.schemars_impls.specs.Containers.{tuple_row, and_parts, no_parts}

-- The dictionary tells of this type's row what the type says, and the row is not being described.
pub record Tells (t : TypeRow) (d : Dictionary) : Type 0 where
  pub told : d.told t.id ≡ Some (told_of t)
  pub free : IsFree (d.stage t.id)

-- The same, and of the type's parts while its own row is being described.
abbrev pub TellsWith : TypeRow → (Dictionary → Type 0) → Dictionary → Type 0
TellsWith t parts d = Tells t d × parts (staged t.id Pending d)

-- this of the items of an array, unless there are none
abbrev pub OfItems : Bool → (Dictionary → Type 0) → Dictionary → Type 0
OfItems true told d = Unit {0}
OfItems false told d = told d

-- The entry of each row that has one is made as this tells of its id.
pub record AreAsTold (told : Text → Option Told) (rows : List Row) : Type 0 where
  pub entries : (id : Text) (n : ℕ) → place_of id rows ≡ Some n → IsEntryOf (told id) rows (entry_at rows n)

-- ---- what types tell

-- what a type tells of its row
abbrev pub tell : TypeRow → Text × Told
tell t = (t.id, told_of t)

abbrev pub told_first : Text → List (Text × Told) → Option Told
told_first id [] = None
told_first id (x ∷ xs) = if bytes_eq id x.0 then Some x.1 else told_first id xs

-- the dictionary that tells this alone, in which no row is being described
abbrev pub telling : List (Text × Told) → Dictionary
telling entries = record { told = λ id. told_first id entries; stage = λ id. Open; refuses = λ e. false }

-- ---- tuples of one part to four

abbrev pub single_row : TypeRow → TypeRow
single_row t = tuple_row (and_parts t no_parts)

abbrev pub pair_row : TypeRow → TypeRow → TypeRow
pair_row t u = tuple_row (and_parts t (and_parts u no_parts))

abbrev pub triple_row : TypeRow → TypeRow → TypeRow → TypeRow
triple_row t u v = tuple_row (and_parts t (and_parts u (and_parts v no_parts)))

abbrev pub quadruple_row : TypeRow → TypeRow → TypeRow → TypeRow → TypeRow
quadruple_row t u v w = tuple_row (and_parts t (and_parts u (and_parts v (and_parts w no_parts))))

-- ---- tables

-- The table follows a dictionary that tells the rows of a type and of its parts.
pub record IsToldIn (told : Dictionary → Type 0) (rows : List Row) : Type 0 where
  pub dictionary : Dictionary
  pub tells : told dictionary
  pub follows : Follows dictionary rows

-- A type that says so has row n of this table, which keeps to the dictionaries in which the type is, and the table has this fault.
pub record IsFaulty (t : TypeRow) (old new : List Row) (e : TypesError) : Type 0 where
  pub n : ℕ
  pub added : IsAdded t old new n
  pub follows : KeepsTo (IsIn t) old new
  pub fault : Refusal new e

-- A type that says so is not registered, or the table that it was registered in has this fault, unless memory runs out.
pub record Refuses (t : TypeRow) (old new : List Row) (e : TypesError) : Type 0 where
  pub cause : RefusesType t old e ⊎ ((e ≡ OutOfMemory) ⊎ IsFaulty t old new e)
