-- What times of opening send, and which row describes them.
use Rattle.std.specs.Prelude.{ℕ, ◌<◌, ◌^◌, List, All, codes, string_bytes, FitsSigned}
use Rattle.std.specs.Int.{w16}
use Rattle.serde.specs.Event.{Log, Sends, text, signed, unsigned, WritesMap}
use Rattle.serde.specs.declared.name.Case.TheVariants.{AsIs}
use Rattle.schemars_shapes.specs.Shape as shape
use Rattle.schemars_shapes.specs.Shape.{by_name}
use Rattle.schemars_shapes.specs.declared.shape.IntKind.TheVariants.{U8, I16}
use Rattle.schemars_types.specs.Rows.{Row}
use Rattle.schemars_written.specs.Gives.{Named, Struct, Field, Done}
use Rattle.schemars_written.specs.Fits.{HasShape, HasUnit, NextField, LastField}
use Rattle.example_agreement.specs.Events.{IsText}
use Rattle.example_agreement.specs.declared.opening.Day.{Day}
use Rattle.example_agreement.specs.declared.opening.Day.TheVariants as day
use Rattle.example_agreement.specs.declared.opening.Opening.{Opening}

-- ---- days

abbrev pub day_writes : Day → Log → Log → Type 0
day_writes day.Weekday = Named (codes "weekday") AsIs
day_writes day.Saturday = Named (codes "saturday") AsIs
day_writes day.Sunday = Named (codes "sunday") AsIs

abbrev pub IsDayRow : List Row → ℕ → Type 0
IsDayRow rows n = HasUnit rows n by_name (codes "weekday") × HasUnit rows n by_name (codes "saturday")
    × HasUnit rows n by_name (codes "sunday")

-- ---- a map by days, and one by whole numbers

abbrev pub hours_write : Opening → Log → Log → Type 0
hours_write x = WritesMap day_writes (λ v. Sends (unsigned v)) x.hours.entries

abbrev pub notes_write : Opening → Log → Log → Type 0
notes_write x = WritesMap (λ z. Sends (signed z)) (λ s. Sends (text (string_bytes s))) x.notes.entries

abbrev pub opening_writes : Opening → Log → Log → Type 0
opening_writes x = Struct 2 (Field (codes "hours") (hours_write x) (Field (codes "notes") (notes_write x) Done))

-- the numbers are those of their types
abbrev pub IsOpening : Opening → Type 0
IsOpening x = All (λ e. Unit {0} × (e.1 < 2 ^ 8)) x.hours.entries × All (λ e. FitsSigned w16 e.0 × Unit {0}) x.notes.entries

abbrev pub AreHours : List Row → ℕ → Type 0
AreHours rows n = (from m : ℕ) × HasShape rows n (shape.map_from from m) × IsDayRow rows from × HasShape rows m (shape.int U8)

abbrev pub AreNotes : List Row → ℕ → Type 0
AreNotes rows n = (from m : ℕ) × HasShape rows n (shape.map_from from m) × HasShape rows from (shape.int I16) × IsText rows m

abbrev pub NotesField : List Row → List shape.Field → Type 0
NotesField rows = NextField (codes "notes") (AreNotes rows) LastField

abbrev pub OpeningFields : List Row → List shape.Field → Type 0
OpeningFields rows = NextField (codes "hours") (AreHours rows) (NotesField rows)
