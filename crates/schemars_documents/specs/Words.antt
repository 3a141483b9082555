-- Words that many contracts of this crate name.
pub use Rattle.schemars_builders.specs.NullLaw.{text_items}
pub use Rattle.schemars_builders.specs.Variants.{unit_variant}
pub use Rattle.schemars_documents.specs.Basis.{basis_of}
pub use Rattle.schemars_documents.specs.Documents.{bound_at, byte_document, bytes_document, char_document, empty_list_document, formatted_document, int_document, int_keywords, is_signed, non_zero_document, required_names, schema_document}
pub use Rattle.schemars_documents.specs.OfShape.{adjacent_item, adjacent_payload, adjacent_template, array_template, bare_units, bound_template, content_template, either_template, entry_template, external_template, fields_template, internal_item, internal_template, list_template, literal_document, members_asked, named_template, other_items, other_values, pattern_properties_at, payload_item, payload_template, property, range_template, result_template, set_template, struct_template, template_of, titled, tuple_template, untagged_template, up_to_template, values_of, values_template, with_flattened}
pub use Rattle.schemars_schema.specs.SchemaData.{put_all}
pub use Rattle.schemars_shapes.specs.IntKind.{format_of}
pub use Rattle.schemars_shapes.specs.Shape.{adjacent_view, entry_of, field_of, fields_of, flattened_of, internal_payload_of, internal_variant_of, internal_view, payload_of, required_of, shape_of, variant_of}
pub use Rattle.schemars_templates.specs.Finished.{typed}
pub use Rattle.schemars_templates.specs.Nodes.{member_template, object_with, said, typed_template}
pub use Rattle.schemars_templates.specs.Template.{finished, noted, nullable, row}
pub use Rattle.schemars_templates.specs.View.{ask_of, keyword_view, node_view, property_view, scalar_keyword, template_view, value_view}
pub use Rattle.schemars_types.specs.Faults.{IsChecked}
pub use Rattle.schemars_types.specs.Found.{options_of}
pub use Rattle.schemars_types.specs.KeyOptions.{key_options, keys}
pub use Rattle.schemars_types.specs.Meaning.{greatest_of, is_required, least_of}
pub use Rattle.serde_json.specs.Data.{array, item, no_items, no_members, number, put, string, unsigned}
pub use Rattle.serde_json.specs.View.{members_view, view}
