-- Words that many contracts of this crate name.
pub use Rattle.schemars_builders.specs.AllowNull.{null_schema}
pub use Rattle.schemars_flatten.specs.Flatten.{alone, appended, both_choices, contains_key, flattened, has_subschema, is_choice, is_joined, is_merged, joined, merged, moved, moved_beside, opened_keywords, rest_keyword, united, united_all, with_choice, with_keyword, with_keywords, with_united}
pub use Rattle.schemars_flatten.specs.FlattenLaw.{AcceptsBoth, AreJoinable}
pub use Rattle.schemars_flatten.specs.Opening.{closed_at, closed_in, closed_in_items, closed_in_keywords, closes, closes_by, closes_inside, has_type, is_false, must_be_in_place, opened, opened_at, opened_here, opened_inside, same_object_place}
pub use Rattle.schemars_flatten.specs.Parts.{choice_or_anything, first_as_objects, first_units, flattened_part, holds_empty_object, is_empty_object, list_changed_at, one_or_anything, optional, optional_where, unit_object, unit_object_first, unit_objects, units_as_objects, units_of, with_empty_object, with_items, with_units}
pub use Rattle.schemars_schema.specs.Edits.{changed_at, is_text, on_list, without}
pub use Rattle.schemars_schema.specs.References.{with_same_object, with_same_objects}
pub use Rattle.schemars_schema.specs.SchemaData.{put_members}
pub use Rattle.schemars_text.specs.OrderedText.{is_listed}
pub use Rattle.schemars_walk.specs.Walk.{place_meant}
pub use Rattle.serde_json.specs.Data.{array, no_items, object, put}
pub use Rattle.serde_json.specs.Find.{as_str, get_member}
pub use Rattle.serde_json.specs.View.{items_view, members_view, view}
pub use Rattle.std.specs.BTreeMap.{IsOrdered}
