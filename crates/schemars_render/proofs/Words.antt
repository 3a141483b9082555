-- Words that many proofs of this crate name.
pub use Rattle.schemars_builders.proofs.Nulls.{empty_accepts}
pub use Rattle.schemars_builders.specs.AllowNull.{accepts_everything, enum_with_null, holds_null, null_in_const, null_in_enum, null_in_type, type_with_null}
pub use Rattle.schemars_builders.specs.NullLaw.{text_items}
pub use Rattle.schemars_definitions.proofs.ReadBack.{has_float-json}
pub use Rattle.schemars_parts.specs.Assembled.{assembled_view, items_assembled, named_view}
pub use Rattle.schemars_render.specs.Answer.{leaf_view}
pub use Rattle.schemars_schema.specs.Edits.{holds_text, with_first, with_item, with_member}
pub use Rattle.schemars_schema.specs.SchemaData.{object_of, put_members}
pub use Rattle.schemars_templates.proofs.Annotating.{annotated-some}
pub use Rattle.schemars_templates.proofs.Items.{no_more}
pub use Rattle.schemars_templates.specs.Finished.{Keyword}
pub use Rattle.schemars_templates.specs.Nodes.{KeywordTemplate, object_with, templates_of}
pub use Rattle.schemars_templates.specs.Template.{filled_in, keyed, left, left_in}
pub use Rattle.schemars_templates.specs.View.{keyword_view, property_view, scalar_keyword, template_view}
pub use Rattle.serde_json.proofs.Views.{view-Object}
pub use Rattle.serde_json.specs.Data.{Data, array, item, no_items, no_members, null, object, put, string}
pub use Rattle.serde_json.specs.Find.{get_member}
pub use Rattle.serde_json.specs.View.{items_of, members_view, view}
pub use Rattle.std.proofs.lemmas.List.{nil_from_length}
pub use Rattle.std.proofs.lemmas.Result.{IfOk-weaker, on_ok_weaker}
