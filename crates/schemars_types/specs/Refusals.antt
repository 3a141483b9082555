-- What a table refuses, and why.
use Rattle.std.specs.Prelude.{◌≡◌, ℕ, true, false, nat_le, length, List, Option, Some, None, if◌then◌else◌}
use Rattle.std.specs.Option.{option_map_or}
use Rattle.schemars_schema.specs.Json.{Text}
use Rattle.schemars_shapes.specs.Shape.{Shape, Entry}
use Rattle.schemars_types.specs.Rows.{Row, place_of, reserved, defined, unknown_in, holds_another}
use Rattle.schemars_types.specs.declared.error.TypesError.{TypesError}
use Rattle.schemars_types.specs.declared.error.TypesError.TheVariants.{OutOfMemory, UndefinedType, RepeatedName, DirectCycle, EmptyCycle, AlreadyDefined, UnknownType}

abbrev pub code_of : TypesError → ℕ
code_of OutOfMemory = 1
code_of (UndefinedType n) = 2
code_of (RepeatedName n name) = 3
code_of (DirectCycle n) = 4
code_of (EmptyCycle n) = 5
code_of (AlreadyDefined n) = 6
code_of (UnknownType n) = 8

-- the first of n and the numbers in a shape that is not the number of a row
abbrev pub first_unknown : List Row → ℕ → Shape → Option ℕ
first_unknown rows n s = if nat_le (length rows) n then Some n else unknown_in rows s

-- why row n may not have this entry: a number is unknown, or else another entry is there
abbrev pub refusal_of : List Row → ℕ → Entry → Option TypesError
refusal_of rows n e =
    option_map_or (λ m. Some (UnknownType m)) (first_unknown rows n e.shape)
    (if holds_another rows n e then Some (AlreadyDefined n) else None)

-- The row with this id has number n and this entry. It keeps its name, or has this one where its id is new.
pub record Registers (id name : Text) (e : Entry) (old new : List Row) (n : ℕ) : Type 0 where
  pub number : place_of id new ≡ Some n
  pub table : new ≡ defined n e (reserved id name old)
  pub known : unknown_in old e.shape ≡ None
  pub free : holds_another old n e ≡ false

-- why the row with this id may not have this entry
abbrev pub Refuses : Text → Entry → List Row → TypesError → Type 0
Refuses id e rows OutOfMemory = unknown_in rows e.shape ≡ None
Refuses id e rows (AlreadyDefined n) = (unknown_in rows e.shape ≡ None) × (place_of id rows ≡ Some n) × (holds_another rows n e ≡ true)
Refuses id e rows (UnknownType n) = unknown_in rows e.shape ≡ Some n
Refuses id e rows _ = ⊥
