-- Words that many contracts of this crate name.
pub use Rattle.schemars_shapes.specs.AnyPayload.{any_payload_of, payload_fields}
pub use Rattle.schemars_shapes.specs.Equality.{bool_eq, entry_eq, field_eq, fields_eq, flattened_eq, list_eq, payload_eq, shape_eq, variant_eq, variants_eq}
pub use Rattle.schemars_shapes.specs.IntKind.{format_of, non_zero_name}
pub use Rattle.schemars_shapes.specs.IntegerKeys.{integers_of, pattern_of}
pub use Rattle.schemars_shapes.specs.Repeated.{AreDistinctLists, IsFirstRepeated, IsRepeated}
pub use Rattle.schemars_shapes.specs.Rows.{field_rows, payload_rows, rows_of}
pub use Rattle.schemars_shapes.specs.Shape.{Variant, adjacent_view, entry_of, field_of, fields_numbers, fields_of, flattened_of, flattened_rows, internal_payload_of, internal_variant_of, internal_view, map_from, names_of, numbers_of, of_variants, option_of, payload_names, payload_numbers, payload_of, shape_of, variant_names, variant_numbers, variant_of, without_notes}
pub use Rattle.schemars_shapes.specs.Units.{is_bare_unit}
pub use Rattle.serde_json.specs.View.{members_view}
pub use Rattle.std.specs.Cmp.Lexicographic.{pointwise}
pub use Rattle.std.specs.List.{IsDistinct}
pub use Rattle.std.specs.Option.{option_map}
