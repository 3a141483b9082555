-- Words that many contracts of this crate name.
pub use Rattle.schemars_impls.specs.Containers.{PartRows, and_parts, map_row, no_parts, option_row, seq_row, set_row, tuple_row}
pub use Rattle.schemars_impls.specs.Describes.{Adds, AreKnown, IsMade, OfOne, OfTwo, entry_under}
pub use Rattle.schemars_impls.specs.Dictionary.{Completes, Describes, IsAdded, IsIn, KeepsTo, RefusesAs, RefusesPart, RefusesType, TypeRow, alone, of_one, of_two}
pub use Rattle.schemars_impls.specs.Fields.{FieldsAreKnown, NumbersAreKnown, PartsAreKnown, VariantsAreKnown, bare_variant, fields_with, part, plain_field}
pub use Rattle.schemars_impls.specs.Floats.{float_schema}
pub use Rattle.schemars_impls.specs.Keeps.{Keeps, KeepsRows}
pub use Rattle.schemars_impls.specs.Notes.{at_last, noted_entry, noted_field, noted_variant}
pub use Rattle.schemars_impls.specs.OwnRows.{HasArrayOf, HasMapOf, HasOptionOf, HasRowOf, HasSeqOf, HasSetOf, IsArrayOf, IsMapOf, IsNumber, IsOptionOf, IsReserved, IsSeqOf, IsSetOf, RefusesNumbers}
pub use Rattle.schemars_impls.specs.Zoned.{zoned_row}
pub use Rattle.schemars_shapes.specs.IntKind.{format_of, non_zero_name}
pub use Rattle.schemars_shapes.specs.Shape.{bare_fields, entry_of, field_of, fields_of, flattened_of, in_place, internal_payload_of, internal_variant_of, needed, newtype_payload, no_payload, payload_of, required_of, shape_of, struct_payload, tuple_payload, variant_of, without_notes}
pub use Rattle.schemars_types.specs.Names.{array_id, bound_id, bound_name, either_id, either_name, map_id, map_name, non_zero_id, range_id, range_name, result_id, result_name, set_id, set_name, tuple_id, tuple_name, up_to_id, up_to_name}
pub use Rattle.schemars_types.specs.Rows.{Row, name_at, place_of, reserved, unknown_in}
pub use Rattle.schemars_types.specs.Times.{time_entry}
pub use Rattle.schemars_types.specs.Version.{version_schema}
pub use Rattle.serde_json.specs.View.{view}
pub use Rattle.std.specs.Cow.{cow_str_bytes}
pub use Rattle.std.specs.List.{flat_map}
