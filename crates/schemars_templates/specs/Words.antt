-- Words that many contracts of this crate name.
pub use Rattle.schemars_builders.specs.NullLaw.{text_items}
pub use Rattle.schemars_builders.specs.Variants.{unit_variant}
pub use Rattle.schemars_schema.specs.SchemaData.{inserted, members_in, object_of, put_all}
pub use Rattle.schemars_templates.specs.Finished.{annotated, root_document, title_alone, type_alone, typed}
pub use Rattle.schemars_templates.specs.Nodes.{any_of_template, closed_keyword, map_template, member_template, object_with, one_of_template, properties_at, required_at, templates_of, typed_template, whole_template}
pub use Rattle.schemars_templates.specs.Template.{asks_of, behind, filled, finished, first, left, list, noted, nullable, row, tagged}
pub use Rattle.schemars_templates.specs.View.{ask_of, keyword_view, node_view, property_view, scalar_keyword, scalar_view, template_view, value_view, with_answers}
pub use Rattle.serde_json.specs.Data.{array, boolean, no_members, number, object, string, unsigned}
pub use Rattle.serde_json.specs.View.{members_view, view}
