-- What an event sends, and which row describes events.
use Rattle.std.specs.Prelude.{ℕ, ◌<◌, ◌^◌, List, codes, string_bytes, FitsSigned}
use Rattle.std.specs.Int.{w8}
use Rattle.serde.specs.Event.{Log, Sends, text, signed, unsigned, InSeq, Then, WritesOption}
use Rattle.serde.specs.declared.name.Case.TheVariants.{AsIs}
use Rattle.schemars_shapes.specs.Shape as shape
use Rattle.schemars_shapes.specs.Shape.{by_name}
use Rattle.schemars_shapes.specs.declared.shape.IntKind.TheVariants.{U8, I8}
use Rattle.schemars_types.specs.Rows.{Row}
use Rattle.schemars_written.specs.Gives.{Named, Tagged, Struct, Field, Done}
use Rattle.schemars_written.specs.Fits.{HasShape, OfSome, HasUnit, HasNewtype, HasTuple, HasStruct, NextItem, LastItem, NextField, LastField}
use Rattle.example_agreement.specs.declared.event.Event.{Event}
use Rattle.example_agreement.specs.declared.event.Event.TheVariants as event

abbrev pub event_writes : Event → Log → Log → Type 0
event_writes event.Started = Named (codes "started") AsIs
event_writes (event.Renamed name) = Tagged (codes "renamed") AsIs (Sends (text (string_bytes name)))
event_writes (event.Moved x y) =
    Tagged (codes "moved") AsIs (InSeq 2 (Then (Sends (signed x)) (Sends (signed y))))
event_writes (event.Joined name age) = Tagged (codes "joined") AsIs (Struct 2
    (Field (codes "name") (Sends (text (string_bytes name)))
    (Field (codes "age") (WritesOption (λ v. Sends (unsigned v)) age) Done)))

-- the numbers are those of their types
abbrev pub IsEvent : Event → Type 0
IsEvent event.Started = Unit {0}
IsEvent (event.Renamed name) = Unit {0}
IsEvent (event.Moved x y) = FitsSigned w8 x × FitsSigned w8 y
IsEvent (event.Joined name age) = OfSome (λ v. v < 2 ^ 8) age

-- ---- rows

abbrev pub IsText : List Row → ℕ → Type 0
IsText rows n = HasShape rows n shape.text

abbrev pub IsI8 : List Row → ℕ → Type 0
IsI8 rows n = HasShape rows n (shape.int I8)

abbrev pub IsOptionalU8 : List Row → ℕ → Type 0
IsOptionalU8 rows n = (m : ℕ) × HasShape rows n (shape.option m) × HasShape rows m (shape.int U8)

abbrev pub MovedItems : List Row → List ℕ → Type 0
MovedItems rows = NextItem (IsI8 rows) (NextItem (IsI8 rows) LastItem)

abbrev pub AgeField : List Row → List shape.Field → Type 0
AgeField rows = NextField (codes "age") (IsOptionalU8 rows) LastField

abbrev pub JoinedFields : List Row → List shape.Field → Type 0
JoinedFields rows = NextField (codes "name") (IsText rows) (AgeField rows)

abbrev pub IsEventRow : List Row → ℕ → Type 0
IsEventRow rows n = HasUnit rows n by_name (codes "started")
    × HasNewtype rows n by_name (codes "renamed") (IsText rows)
    × HasTuple rows n by_name (codes "moved") (MovedItems rows)
    × HasStruct rows n by_name (codes "joined") (JoinedFields rows)
