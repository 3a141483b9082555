-- Words that many proofs of this crate name.
pub use Rattle.schemars_documents.specs.PlainTable.{AreApart, AreApartFrom, AreDistinct, AreDistinctVariants, AreNoNames, AreNoted, AreOthers, ArePartsUnder, ArePlainParts, ArePlainVariants, AreTagged, EntryFlattensNoEnums, HasBareUnits, HaveContents, IsEntryUnder, IsNoContent, IsNoName, IsNoVariant, IsOpenStruct, IsPlainContent, IsPlainEntry, VariantsHaveNamesApart, VariantsHaveNoEnums, all_payload_names, enum_names_at, tag_names, variant_parts}
pub use Rattle.schemars_plain.specs.Said.{Said, as_said}
pub use Rattle.schemars_schema.proofs.SortedMembers.{IsSorted, above-trans, get_member-above}
pub use Rattle.schemars_schema.specs.Annotations.{AreNotes}
pub use Rattle.schemars_schema.specs.Assertions.{are_type_names, texts_in, type_names, types_in}
pub use Rattle.schemars_schema.specs.Edits.{is_text}
pub use Rattle.schemars_schema.specs.Json.{IsAbove, Text, are_distinct, is_among}
pub use Rattle.schemars_schema.specs.Judges.{when}
pub use Rattle.schemars_schema.specs.Literal.{ArePlainMembers, is_null_type, names_types}
pub use Rattle.schemars_shapes.specs.Shape.{Entry, Field, Fields, Flattened, Required, Variant, entry_of, field_of, fields_of, flattened_of, internal_variant_of, shape_of, struct, variant_of}
pub use Rattle.schemars_shapes.specs.Repeated.{IsRepeated}
pub use Rattle.schemars_text.proofs.Members.{bytes_eq_comm}
pub use Rattle.schemars_text.specs.OrderedText.{is_listed}
pub use Rattle.schemars_types.proofs.Names.{never_repeated}
pub use Rattle.schemars_types.specs.Edges.{option_at}
pub use Rattle.schemars_types.specs.Effective.{effective, enum_at, expanded_variant, flattened_enums, flattened_fields, flattened_in, part_enums, part_fields, required_only_if, shape_enums, shape_fields, without_options}
unfoldable pub use Rattle.schemars_types.specs.Effective.{enums_within, fields_within}
pub use Rattle.schemars_types.specs.Rows.{Row, entry_at}
pub use Rattle.serde_json.specs.Data.{Data, Items, array, item}
pub use Rattle.serde_json.specs.Events.{items_len}
pub use Rattle.serde_json.specs.Find.{as_str}
pub use Rattle.serde_json.specs.View.{items_view, members_view, view}
pub use Rattle.std.proofs.Math.Bool.{and-false}
pub use Rattle.std.proofs.lemmas.Bool.{le-leb}
pub use Rattle.std.proofs.lemmas.Grind.{common_steps}
pub use Rattle.std.proofs.lemmas.List.{drop_more, map-append, take_rest}
pub use Rattle.std.proofs.lemmas.Map.Keys.{sorted_head, sorted_tail}
pub use Rattle.std.proofs.lemmas.Result.{IfOk-weaker, on_ok_weaker}
pub use Rattle.std.specs.List.{AllByRecursion, list_all}
unfoldable pub use Rattle.std.specs.List.{IsDistinct}
pub use Rattle.std.specs.List.Sorted.{IsStrictlySortedBy}
pub use Rattle.std.specs.Option.{option_map_or}
pub use Rattle.std.specs.Prelude.{IsTrue, String, bytes_eq, codes, if◌then◌else◌, is_some, nat_le, not, option_and_then, option_map, string_bytes, string_cmp, suc, ℕ, ◌&&◌, ◌||◌, ◌↔◌}
