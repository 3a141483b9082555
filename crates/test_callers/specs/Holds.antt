-- What a table holds to which one type was added: each of its rows.
use Rattle.std.specs.Prelude.{◌≡◌, ℕ, Bool, true, List, [], Some, length, slice_get, codes}
use Rattle.serde_json.specs.Data.{no_members}
use Rattle.schemars_schema.specs.Json.{Text}
use Rattle.schemars_shapes.specs.declared.shape.IntKind.TheVariants.{U8}
use Rattle.schemars_shapes.specs.Shape.{Shape, bool, int, text}
use Rattle.schemars_types.specs.Rows.{Row, HasDistinctIds, place_of}
use Rattle.schemars_impls.specs.Dictionary.{TypeRow, IsIn, KeepsTo}

-- a row that is defined, without notes; whether it is written in place
abbrev pub row : Text → Text → Bool → Shape → Row
row id name inline shape =
    record { id = id; name = name; entry = Some (record { inline = inline; notes = no_members; shape = shape }) }

-- The table has one row, which is this.
pub record HoldsOne (whole : Row) (rows : List Row) (n : ℕ) : Type 0 where
  pub whole_is : slice_get rows n ≡ Some whole
  pub count : length rows ≡ 1

-- The table has two rows: n, which is made of the number of the other, and that.
pub record HoldsTwo (whole : ℕ → Row) (part : Row) (rows : List Row) (n : ℕ) : Type 0 where
  pub m : ℕ
  pub whole_is : slice_get rows n ≡ Some (whole m)
  pub part_is : slice_get rows m ≡ Some part
  pub count : length rows ≡ 2

-- The table has three rows: n, which is made of the numbers of the others, and those.
pub record HoldsThree (whole : ℕ → ℕ → Row) (first second : Row) (rows : List Row) (n : ℕ) : Type 0 where
  pub a : ℕ
  pub b : ℕ
  pub whole_is : slice_get rows n ≡ Some (whole a b)
  pub first_is : slice_get rows a ≡ Some first
  pub second_is : slice_get rows b ≡ Some second
  pub count : length rows ≡ 3

-- The table has three rows: n, which is made of the number of the second, which is made of that of the last.
pub record HoldsChain (whole middle : ℕ → Row) (part : Row) (rows : List Row) (n : ℕ) : Type 0 where
  pub m : ℕ
  pub k : ℕ
  pub whole_is : slice_get rows n ≡ Some (whole m)
  pub middle_is : slice_get rows m ≡ Some (middle k)
  pub part_is : slice_get rows k ≡ Some part
  pub count : length rows ≡ 3

-- ---- types without parts

abbrev pub byte : Row
byte = row (codes "uint8") (codes "uint8") true (int U8)

abbrev pub truth : Row
truth = row (codes "boolean") (codes "boolean") true bool

abbrev pub string : Row
string = row (codes "string") (codes "string") true text

-- ---- what the contract of `register` says of a table that was empty

-- The type has row n, and the table follows each dictionary in which the type is. No two rows have one id.
pub record IsRegistered (t : TypeRow) (rows : List Row) (n : ℕ) : Type 0 where
  pub number : place_of t.id rows ≡ Some n
  pub follows : KeepsTo (IsIn t) [] rows
  pub distinct : HasDistinctIds rows
