-- Words that many proofs of this crate name.
pub use Rattle.schemars_builders.specs.NullLaw.{text_items}
pub use Rattle.schemars_flatten.specs.Flatten.{flattened}
pub use Rattle.schemars_schema.specs.Json.{Text}
pub use Rattle.schemars_schema.specs.SchemaData.{members_in, object_of, put_all, put_members}
pub use Rattle.schemars_templates.specs.Finished.{annotated}
pub use Rattle.schemars_templates.specs.Nodes.{KeywordTemplate, closed_keyword, object_with, properties_at, required_at, said, templates_of, typed_template}
pub use Rattle.schemars_templates.specs.Template.{Ask, Template, asked, asks_in, asks_of, filled, filled_in, finished, first, keyed, left, left_in, with_keywords}
pub use Rattle.schemars_templates.specs.View.{ask_of, keyword_view, node_view, property_view, scalar_keyword, template_view, under_name, value_view, with_answers}
pub use Rattle.serde_json.proofs.Views.{Entry, view-Array, view-Object}
pub use Rattle.serde_json.specs.Data.{Data, Members, array, boolean, item, no_members, object, string}
pub use Rattle.serde_json.specs.View.{items_of, items_view, members_view, view}
pub use Rattle.std.proofs.lemmas.List.{at_drop_all, drop_more, map-append}
pub use Rattle.std.proofs.lemmas.Simd.{map-map}
pub use Rattle.std.specs.Iterator.{Yields}
pub use Rattle.std.specs.Prelude.{codes, ◌==◌}
pub use Rattle.std.specs.Vec.Iter.{into_iter_steps}
pub use denote.Param.Weighed.{most}
