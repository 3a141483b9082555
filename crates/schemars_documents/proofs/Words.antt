-- Words that many proofs of this crate name.
pub use Rattle.schemars_builders.specs.NullLaw.{text_items}
pub use Rattle.schemars_documents.specs.Documents.{required_names}
pub use Rattle.schemars_documents.specs.OfShape.{adjacent_item, bare_units, choice_of, content_template, external_template, internal_item, literal_document, members_asked, named_template, other_items, other_values, pattern_properties_at, payload_item, property, titled, untagged_template, values_of, with_flattened}
pub use Rattle.schemars_documents.specs.PlainTable.{ArePartsUnder, ArePlainParts, AreTagged, HasContent, HaveContents, IsEntryUnder, IsNoContent, IsOpenStruct, IsPartEntry, IsPartShape, IsPartUnder, IsPlainContent, IsPlainEntry, IsPlainPart, IsPlainShape, IsPlainTable, IsPlainUnder, IsTagged, PayloadHasNamesApart, ShapeHasContents, ShapeHasNamesApart, VariantsHaveNamesApart, enum_names_at, may_miss, parts_in, payload_parts, variant_parts}
pub use Rattle.schemars_schema.specs.Json.{Text}
pub use Rattle.schemars_schema.specs.Judges.{Patterns}
pub use Rattle.schemars_schema.specs.SchemaData.{IsSchema}
pub use Rattle.schemars_shapes.specs.Shape.{Field, Fields, Flattened, Payload, Shape, Tagging, Variant, field_of, flattened_of, internal_variant_of, newtype_payload, no_payload, option_of, struct_payload, tuple_payload, variant_of}
pub use Rattle.schemars_templates.proofs.Answering.{seen_members}
pub use Rattle.schemars_templates.proofs.Items.{no_more}
pub use Rattle.schemars_templates.proofs.Templates.{seen_finished, seen_texts}
pub use Rattle.schemars_templates.specs.Nodes.{any_of_template, map_template, object_with, one_of_template, properties_at, said, typed_template}
pub use Rattle.schemars_templates.specs.Template.{Template, asked, finished, noted, row, tagged, with_keywords}
pub use Rattle.schemars_templates.specs.View.{ask_of, keyword_view, node_view, property_view, template_view, value_view, with_answers}
pub use Rattle.schemars_types.specs.Edges.{option_at}
pub use Rattle.schemars_types.specs.Effective.{enum_at, expanded_fields, expanded_payload, expanded_shape_in, expanded_variant, flattened_enums, flattened_fields, part_enums, part_fields, required_only_if, row_fields, shape_enums, shape_fields, without_options, without_options_within}
unfoldable pub use Rattle.schemars_types.specs.Effective.{enums_within, fields_within}
pub use Rattle.schemars_types.specs.KeyOptions.{KeyOptions, key_options}
pub use Rattle.schemars_types.specs.Meaning.{VariantMatch, belongs, choices_within, has_payload, has_shape, has_variant, is_required}
unfoldable pub use Rattle.schemars_types.specs.Meaning.{belongs_within}
pub use Rattle.schemars_types.specs.OpenStructs.{belongs_plainly, joined_fields, joined_in, joined_payload, joined_shape, joined_variant, no_choices}
unfoldable pub use Rattle.schemars_types.specs.OpenStructs.{belongs_plainly_within, struct_fields_within}
pub use Rattle.schemars_types.specs.Rows.{Row, entry_at}
pub use Rattle.serde_json.specs.Data.{Data, Items, Members, array, boolean, depth, object}
pub use Rattle.std.proofs.Math.Path.{fun_ext}
pub use Rattle.std.proofs.lemmas.Bool.Decides.{nat_tests}
pub use Rattle.std.proofs.lemmas.List.{at_drop_more, map-append}
pub use Rattle.std.specs.List.{list_any}
pub use Rattle.std.specs.Option.{option_map_or}
pub use Rattle.std.specs.Prelude.{codes, if◌then◌else◌, is_some, not, option_and_then, ◌&&◌, ◌*◌, ◌+◌, ◌==◌, ◌||◌}
