-- Words that many proofs of this crate name.
unfoldable pub use Rattle.schemars_impls.specs.Containers.{array_row, map_row, option_row, seq_row, set_row}
pub use Rattle.schemars_impls.specs.Describes.{Adds, Always, IsDescribed, IsMade, Making, OfAll, OfOne, OfTwo, Unsaid, entry_under, places_of}
pub use Rattle.schemars_impls.specs.Dictionary.{Completes, Defined, Describes, Dictionary, Follows, IsAsTold, IsAtStage, IsEntryOf, IsFree, IsInPart, IsLeft, IsNamed, IsTold, IsTypeIn, KeepsTo, Open, Pending, RefusesAs, RefusesPart, RefusesType, Stage, Told, TypeRow, staged}
unfoldable pub use Rattle.schemars_impls.specs.Dictionary.{IsIn, of_one, of_two}
pub use Rattle.schemars_impls.specs.Fields.{FieldsAreKnown, NumbersAreKnown, PartsAreKnown, VariantsAreKnown, bare_variant, fields_with, part, plain_field}
pub use Rattle.schemars_impls.specs.Keeps.{AllContinue, Continues, Keeps, KeepsRows}
pub use Rattle.schemars_impls.specs.Notes.{at_last, noted_field, noted_variant}
pub use Rattle.schemars_impls.specs.OwnRows.{HasMap, HasOptionOf, HasRow, HasRowOf, HasSeqOf, HasSetOf, IsCalled, IsMadeOf, IsNumber, IsReserved, RefusesNumbers, called, with_row}
unfoldable pub use Rattle.schemars_impls.specs.OwnRows.{HasArrayOf, IsArrayOf, IsMapOf, IsOptionOf, IsSeqOf, IsSetOf}
pub use Rattle.schemars_schema.specs.Json.{Text}
pub use Rattle.schemars_shapes.proofs.EqualEntries.{same_entry}
pub use Rattle.schemars_shapes.specs.Equality.{entry_eq}
pub use Rattle.schemars_shapes.specs.Shape.{Entry, Field, Flattened, Required, Variant, array, array_of, bare_fields, entry_of, field_of, in_place, internal_variant_of, map_from, newtype_payload, no_payload, option, payload_numbers, seq, set, struct_payload, tuple, tuple_payload, variant_numbers, variant_of}
pub use Rattle.schemars_types.proofs.Registered.{entry_at-joined, known_in_more, nat_le-above, place_of-below}
pub use Rattle.schemars_types.proofs.TableLemmas.{place_of-defined, place_of-reserved, reserved-absent}
pub use Rattle.schemars_types.specs.Names.{array_id, array_name, map_id, map_name, option_id, option_name, seq_id, seq_name, set_id, set_name}
pub use Rattle.schemars_types.specs.Refusals.{Refuses, Registers, first_unknown, refusal_of}
pub use Rattle.schemars_types.specs.Rows.{Row, defined, entry_at, holds_another, id_at, name_at, place_of, reserved, unknown_in, with_entry}
pub use Rattle.serde_json.specs.Data.{Data}
pub use Rattle.serde_json.specs.View.{members_view, view}
pub use Rattle.std.proofs.lemmas.Bool.Decides.{nat_tests}
pub use Rattle.std.proofs.lemmas.Slice.Eq.{bytes_eq-Decides}
pub use Rattle.std.specs.List.{position_from}
pub use Rattle.std.specs.Option.{option_map_or}
pub use Rattle.std.specs.Str.{bytes_eq}
pub use Rattle.std.specs.Vec.{vec_len}
