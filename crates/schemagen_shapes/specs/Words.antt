-- Words that many contracts of this crate name.
pub use Rattle.schemagen_json.specs.BorrowedValue.{data_of, items_data}
pub use Rattle.schemagen_shapes.specs.Forms.{adjacent_in, all_flattened_in, enum_in, external_in, field_in, fields_in, fields_said, flattened_from, internal_in, internal_variant_in, internals_in, items_under, kind_in, kind_named, needed_member, notes_in, number_in, optional_member, parts_from, payload_in, payload_inside, payload_named, payload_under, read_each, required, required_each, required_in, struct_in, untagged_in, variant_in, variant_inside, variants_in}
pub use Rattle.schemagen_shapes.specs.Shapes.{array_in, counted_in, either_in, entry_in, fixed_under, list_under, literal_in, map_in, plain_under, result_in, shape_in, shape_named, shape_under, tuple_in, two_in, up_to_in}
pub use Rattle.schemars_shapes.specs.Shape.{entry_of, field_of, fields_of, flattened_of, formatted, internal_payload_of, internal_variant_of, no_payload, payload_of, required_of, shape_of, variant_of}
pub use Rattle.serde_json.specs.Data.{no_items}
pub use Rattle.serde_json.specs.Find.{as_bool, as_str}
pub use Rattle.serde_json.specs.View.{members_view}
