-- Words that many contracts of this crate name.
pub use Rattle.schemars_documents.specs.PlainTable.{AreDistinct, AreDistinctVariants, AreNoted, ArePartsUnder, ArePlainParts, ArePlainVariants, AreTagged, EntryFlattensNoEnums, FlattensNoEnums, HasBareUnits, HasContent, HasNamesApart, HasNoEnums, HasVariant, HaveContents, IsBare, IsContentShape, IsEntryUnder, IsNoContent, IsNoName, IsOpenStruct, IsPartShape, IsPartUnder, IsPlainContent, IsPlainEntry, IsPlainForEach, IsPlainPayload, IsPlainShape, IsPlainTable, IsPlainUnder, IsTagged, PayloadHasNamesApart, ShapeFlattensNoEnums, ShapeHasContents, ShapeHasNamesApart, VariantsHaveNamesApart, VariantsHaveNoEnums, all_payload_names, enum_names, enum_names_at, may_miss, parts_in, payload_parts, tag_names, variant_parts}
pub use Rattle.schemars_plain.specs.OneValue.{HasOneValue}
pub use Rattle.schemars_plain.specs.Said.{as_said}
pub use Rattle.schemars_schema.specs.Annotations.{AreNotes, is_annotation}
pub use Rattle.schemars_schema.specs.Assertions.{type_names, types_in}
pub use Rattle.schemars_schema.specs.Json.{are_distinct, is_among}
pub use Rattle.schemars_schema.specs.Literal.{ArePlainMembers, IsPlainLiteral, is_null_type, is_plain_member, names_types}
pub use Rattle.schemars_shapes.specs.AnyPayload.{any_payload_of}
pub use Rattle.schemars_shapes.specs.Shape.{adjacent_view, by_name, by_tag, by_tag_and_content, entry_of, enum, field_of, fields_of, flattened_of, internal_payload_of, internal_variant_of, internal_view, payload_names, shape_of, variant_of}
pub use Rattle.schemars_shapes.specs.Units.{is_none}
pub use Rattle.schemars_text.specs.OrderedText.{is_listed}
pub use Rattle.schemars_types.specs.Effective.{effective, enums_within, expanded_fields, expanded_payload, expanded_shape_in, expanded_variant, fields_within, flattened_enums, flattened_in, part_enums, part_fields, shape_enums, shape_fields, without_options}
pub use Rattle.schemars_types.specs.Rows.{entry_at}
pub use Rattle.serde_json.specs.Data.{array}
pub use Rattle.serde_json.specs.Find.{get}
pub use Rattle.serde_json.specs.View.{items_view, members_view, view}
pub use Rattle.std.specs.Option.{option_map_or}
