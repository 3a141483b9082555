-- What times of opening send belongs to their row.
use Rattle.std.proofs.Common.{ℕ, ◌<◌, ◌^◌, List}
use Rattle.std.specs.Prelude.{codes, string_bytes, FitsSigned}
use Rattle.std.specs.Int.{w16}
use Rattle.serde.specs.Event.{Sends, text, signed, unsigned}
use Rattle.serde.specs.declared.name.Case.TheVariants.{AsIs}
use Rattle.schemars_shapes.specs.Shape as shape
use Rattle.schemars_shapes.specs.Shape.{by_name}
use Rattle.schemars_shapes.specs.declared.shape.IntKind.TheVariants.{U8, I16}
use Rattle.schemars_types.specs.Rows.{Row}
use Rattle.schemars_types.specs.Faults.{IsChecked}
use Rattle.schemars_written.specs.Readings.{AnyReading, TakesWholeNumbers}
use Rattle.schemars_written.specs.Gives.{Gives, GivesAsKey, Field, Done}
use Rattle.schemars_written.specs.Fits.{Means, MeansUnder, IsKeyUnder, HasShape, HasUnit, HasFields, LastField}
use Rattle.schemars_written.proofs.Atoms.{under, text_agrees}
use Rattle.schemars_written.proofs.Keys.{unit_key_law}
use Rattle.schemars_written.proofs.KeyLaws.{i16_key_law}
use Rattle.schemars_written.proofs.Laws.{u8_law, keyed_map_law, struct_law, next_field, last_field}
use Rattle.schemars_written.proofs.Variants.{unit_law}
use Rattle.example_agreement.specs.Events.{IsText}
use Rattle.example_agreement.specs.EventLaws.{as_is}
use Rattle.example_agreement.specs.Openings.{day_writes, IsDayRow, hours_write, notes_write, opening_writes, IsOpening, AreHours, AreNotes, NotesField, OpeningFields}
use Rattle.example_agreement.specs.declared.opening.Day.{Day}
use Rattle.example_agreement.specs.declared.opening.Day.TheVariants as day
use Rattle.example_agreement.specs.declared.opening.Opening.{Opening}

-- ---- days, as values and as keys

pub day_law : (rows : List Row) (n : ℕ) (x : Day) → IsChecked rows → IsDayRow rows n → Gives (day_writes x) (Means rows n)
day_law rows n day.Weekday checked row =
    unit_law rows checked n (codes "weekday") AsIs (as_is (HasUnit rows n by_name) (codes "weekday") row.0)
day_law rows n day.Saturday checked row =
    unit_law rows checked n (codes "saturday") AsIs (as_is (HasUnit rows n by_name) (codes "saturday") row.1)
day_law rows n day.Sunday checked row =
    unit_law rows checked n (codes "sunday") AsIs (as_is (HasUnit rows n by_name) (codes "sunday") row.2)

pub day_key_law : (rows : List Row) (n : ℕ) (x : Day) → IsChecked rows → IsDayRow rows n
    → GivesAsKey (day_writes x) (IsKeyUnder AnyReading rows n)
day_key_law rows n day.Weekday checked row =
    unit_key_law rows checked n (codes "weekday") AsIs (as_is (HasUnit rows n by_name) (codes "weekday") row.0)
day_key_law rows n day.Saturday checked row =
    unit_key_law rows checked n (codes "saturday") AsIs (as_is (HasUnit rows n by_name) (codes "saturday") row.1)
day_key_law rows n day.Sunday checked row =
    unit_key_law rows checked n (codes "sunday") AsIs (as_is (HasUnit rows n by_name) (codes "sunday") row.2)

-- ---- the maps

hours_law : (rows : List Row) (m : ℕ) (x : Opening) → IsChecked rows → AreHours rows m → IsOpening x → Gives (hours_write x) (Means rows m)
hours_law rows m x checked row valid = keyed_map_law rows checked m day_writes (λ v. Sends (unsigned v)) (λ d. Unit {0}) (λ v. v < 2 ^ 8)
    IsDayRow (λ rows k. HasShape rows k (shape.int U8)) (λ k d is u. day_key_law rows k d checked is)
    (λ k v is low. u8_law rows k v checked is low) row x.hours.entries valid.0

notes_law : (rows : List Row) (m : ℕ) (x : Opening) → IsChecked rows → AreNotes rows m → IsOpening x
    → Gives (notes_write x) (MeansUnder TakesWholeNumbers rows m)
notes_law rows m x checked row valid = keyed_map_law rows checked m (λ z. Sends (signed z)) (λ s. Sends (text (string_bytes s)))
    (FitsSigned w16) (λ s. Unit {0}) (λ rows k. HasShape rows k (shape.int I16)) IsText
    (λ k z is fits. i16_key_law rows k z checked is fits)
    (λ k s is u. under (Sends (text (string_bytes s))) rows k (λ p takes. tt) (text_agrees rows k (string_bytes s) is))
    row x.notes.entries valid.1

pub opening_law : (rows : List Row) (n : ℕ) (x : Opening) → IsChecked rows → HasFields rows n (OpeningFields rows) → IsOpening x
    → Gives (opening_writes x) (MeansUnder TakesWholeNumbers rows n)
opening_law rows n x checked row valid = struct_law rows checked n 2 (OpeningFields rows)
    (Field (codes "hours") (hours_write x) (Field (codes "notes") (notes_write x) Done)) row
    (next_field rows (codes "hours") (AreHours rows) (NotesField rows) (hours_write x) (Field (codes "notes") (notes_write x) Done)
    (λ m r. under (hours_write x) rows m (λ p takes. tt) (hours_law rows m x checked r valid))
    (next_field rows (codes "notes") (AreNotes rows) LastField (notes_write x) Done (λ m r. notes_law rows m x checked r valid)
    (last_field rows)))
