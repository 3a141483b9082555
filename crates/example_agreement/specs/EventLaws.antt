-- What an event sends belongs to the row of events.
use Rattle.std.proofs.Common.{ℕ, ◌<◌, ◌^◌, List, sym, subst}
use Rattle.std.specs.Prelude.{codes, string_bytes}
use Rattle.serde.specs.Event.{Sends, text, signed, unsigned, Then, WritesOption}
use Rattle.serde.specs.declared.name.Case.TheVariants.{AsIs}
use Rattle.serde.specs.declared.name.NameKind.TheVariants.{Variant}
use Rattle.serde.specs.Spelling.{spelled}
use Rattle.serde.proofs.Spellings.{spelled-AsIs}
use Rattle.schemars_shapes.specs.Shape as shape
use Rattle.schemars_shapes.specs.Shape.{by_name}
use Rattle.schemars_shapes.specs.declared.shape.IntKind.TheVariants.{U8}
use Rattle.schemars_schema.specs.Json.{Text}
use Rattle.schemars_types.specs.Rows.{Row}
use Rattle.schemars_types.specs.Faults.{IsChecked}
use Rattle.schemars_written.specs.Gives.{Gives, Field, Done}
use Rattle.schemars_written.specs.Fits.{Means, HasShape, HasUnit, HasNewtype, HasTuple, HasStruct, NextItem, LastItem, LastField}
use Rattle.schemars_written.proofs.Atoms.{text_agrees}
use Rattle.schemars_written.proofs.Laws.{i8_law, u8_law, option_law, next_field, last_field}
use Rattle.schemars_written.proofs.Variants.{unit_law, newtype_law, tuple_law, fields_law, next_item, last_item}
use Rattle.example_agreement.specs.Events.{event_writes, IsEvent, IsEventRow, IsText, IsI8, IsOptionalU8, MovedItems, AgeField, JoinedFields}
use Rattle.example_agreement.specs.declared.event.Event.{Event}
use Rattle.example_agreement.specs.declared.event.Event.TheVariants as event

pub as_is : (R : Text → Type 0) (name : Text) → R name → R (spelled AsIs Variant name)
as_is R name has = subst R (sym (spelled-AsIs Variant name)) has

pub event_law : (rows : List Row) (n : ℕ) (x : Event) → IsChecked rows → IsEventRow rows n → IsEvent x
    → Gives (event_writes x) (Means rows n)
event_law rows n event.Started checked row valid =
    unit_law rows checked n (codes "started") AsIs (as_is (HasUnit rows n by_name) (codes "started") row.0)
event_law rows n (event.Renamed name) checked row valid = newtype_law rows checked n (codes "renamed") AsIs (IsText rows)
    (as_is (λ t. HasNewtype rows n by_name t (IsText rows)) (codes "renamed") row.1) (Sends (text (string_bytes name)))
    (λ m r. text_agrees rows m (string_bytes name) r)
event_law rows n (event.Moved x y) checked row valid = tuple_law rows checked n (codes "moved") AsIs (MovedItems rows)
    (as_is (λ t. HasTuple rows n by_name t (MovedItems rows)) (codes "moved") row.2) 2 (Then (Sends (signed x)) (Sends (signed y)))
    (next_item rows (IsI8 rows) (NextItem (IsI8 rows) LastItem) (Sends (signed x)) (Sends (signed y))
    (λ m r. i8_law rows m x checked r valid.0)
    (last_item rows (IsI8 rows) (Sends (signed y)) (λ m r. i8_law rows m y checked r valid.1)))
event_law rows n (event.Joined name age) checked row valid =
    let age_sent = WritesOption (λ v. Sends (unsigned v)) age in
    fields_law rows checked n (codes "joined") AsIs (JoinedFields rows)
    (as_is (λ t. HasStruct rows n by_name t (JoinedFields rows)) (codes "joined") row.3) 2
    (Field (codes "name") (Sends (text (string_bytes name))) (Field (codes "age") age_sent Done))
    (next_field rows (codes "name") (IsText rows) (AgeField rows) (Sends (text (string_bytes name))) (Field (codes "age") age_sent Done)
    (λ m r. text_agrees rows m (string_bytes name) r)
    (next_field rows (codes "age") (IsOptionalU8 rows) LastField age_sent Done
    (λ m r. option_law rows checked m (λ v. Sends (unsigned v)) (λ v. v < 2 ^ 8) (λ rows k. HasShape rows k (shape.int U8))
    (λ k v is small. u8_law rows k v checked is small) r age valid)
    (last_field rows)))
