-- Words that many contracts of this crate name.
pub use Rattle.schemars_parts.specs.Assembled.{assembled_view, items_assembled, members_assembled, named_view, reference_to, there_or}
pub use Rattle.schemars_parts.specs.Changing.{IsBesideNull, IsScalar, changed_one, changed_place, forms_by, rules_of}
pub use Rattle.schemars_parts.specs.Searched.{BelongsAt, IsFoundAt}
pub use Rattle.schemars_parts.specs.Writing.{AreWritten, IsMember, IsWritten}
pub use Rattle.schemars_schema.specs.Edits.{holds_text, is_text, without}
pub use Rattle.schemars_schema.specs.SchemaData.{inserted, members_in, object_of, put_members}
pub use Rattle.schemars_text.specs.OrderedText.{SchemaLayout, arranged, each_written_at, first_keywords, item_texts, last_keywords, layout_under, member_texts, ordered_text, others, text_in}
pub use Rattle.schemars_text.specs.Output.{layout_meant, with_values}
pub use Rattle.schemars_transform.specs.Apart.{is_local}
pub use Rattle.schemars_transform.specs.Built.{const_as_enum, prefix_as_items, with_single_example, without_siblings}
pub use Rattle.schemars_transform.specs.BuiltIn.{function_of, made_by}
pub use Rattle.schemars_transform.specs.Needs.{is_changed, needed, needed_at, needed_by_items, needed_by_keywords, needed_by_names, needs_of, place_asked}
pub use Rattle.schemars_transform.specs.Nullable.{has_null, null_alone, with_nullable}
pub use Rattle.schemars_walk.specs.Rewritten.{form_at, in_items, in_keywords, in_names}
pub use Rattle.schemars_walk.specs.Walk.{place_meant}
pub use Rattle.serde_json.specs.Data.{Data, Members, array, boolean, member, no_items, no_members, object, put}
pub use Rattle.serde_json.specs.Events.{members_len}
pub use Rattle.serde_json.specs.Find.{as_bool, as_str, get_member}
pub use Rattle.serde_json.specs.View.{items_view, members_view, view}
pub use Rattle.serde_json.specs.Written.{has_float, items_have_float}
pub use Rattle.std.specs.List.Sorted.{IsPermutation}
