-- Words that many contracts of this crate name.
pub use Rattle.schemars_schema.specs.Edits.{holds_text, replaced}
pub use Rattle.schemars_schema.specs.References.{with_same_object, with_same_objects}
pub use Rattle.schemars_schema.specs.SchemaData.{inserted, members_in}
pub use Rattle.schemars_text.specs.OrderedText.{is_listed}
pub use Rattle.schemars_transform.specs.Apart.{IsTaken, are_local, definition_keys, is_local}
pub use Rattle.schemars_transform.specs.BuiltIn.{made_by}
pub use Rattle.schemars_transform.specs.Formats.{draft_by, draft_inside, draft_named, format_rules, format_stays, is_defined}
pub use Rattle.schemars_transform.specs.Member.{ApplyInOrder, OfMember}
pub use Rattle.schemars_transform.specs.Needs.{are_idle, is_changed, is_idle, keyword_named, needed, needed_at, needed_by_items, needed_by_keywords, needed_by_names, needs_of, no_needs, place_asked, with_keyword}
pub use Rattle.schemars_transform.specs.Nullable.{all_null, has_null, is_null_name, null_alone, null_among, null_taken_out, nulls_in, one_or_list, type_without_null, without_null}
pub use Rattle.schemars_transform.specs.Unevaluated.{keys, keys_in, names_in, names_in_items, names_in_keywords, names_under, object_with_names, properties_made, property_names, with_names, with_properties}
pub use Rattle.schemars_walk.specs.Order.{InOrder}
pub use Rattle.schemars_walk.specs.Rewritten.{rewritten}
pub use Rattle.schemars_walk.specs.Walk.{AtSchema, EachMember, place_meant}
pub use Rattle.serde_json.specs.Data.{Data, Members, array, boolean, member, no_members, object}
pub use Rattle.serde_json.specs.Find.{as_str, get, get_member}
pub use Rattle.serde_json.specs.View.{items_view, members_view, view}
