-- Words that many contracts of this crate name.
pub use Rattle.schemars_builders.specs.AllowNull.{accepts_everything, allow_null, enum_with_null, holds_null, is_combined, null_in_enum, null_in_type, null_in_values, or_null, type_with_null}
pub use Rattle.schemars_builders.specs.NullLaw.{text_items}
pub use Rattle.schemars_builders.specs.Properties.{closed_where, has_null_type, internally_tagged_variant, required_first, tagged, with_property}
pub use Rattle.schemars_builders.specs.Variants.{unit_variant}
pub use Rattle.schemars_parts.specs.Assembled.{assembled_view, items_assembled}
pub use Rattle.schemars_render.specs.Answer.{leaf_view}
pub use Rattle.schemars_render.specs.Rendered.{IsRendered}
pub use Rattle.schemars_schema.specs.Assertions.{is_null}
pub use Rattle.schemars_schema.specs.Json.{IsWholeJson}
pub use Rattle.schemars_schema.specs.SchemaData.{object_of}
pub use Rattle.schemars_templates.specs.Finished.{annotated, reference, title_alone, type_alone}
pub use Rattle.schemars_templates.specs.Nodes.{object_with, templates_of}
pub use Rattle.schemars_templates.specs.Template.{behind, filled, first, left, list}
pub use Rattle.schemars_templates.specs.View.{keyword_view, node_view, property_view, scalar_keyword, scalar_view, template_view, value_view}
pub use Rattle.schemars_transform.specs.Needs.{needs_of}
pub use Rattle.serde_json.specs.Data.{array, item, no_items, null, object, put, string}
pub use Rattle.serde_json.specs.Find.{get_member}
pub use Rattle.serde_json.specs.View.{members_view, view}
