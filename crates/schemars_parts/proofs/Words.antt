-- Words that many proofs of this crate name.
pub use Rattle.json.specs.Print.{quoted}
pub use Rattle.json.specs.Token.{begin_object, end_object, key}
pub use Rattle.schemars_definitions.proofs.ReadBack.{has_float-json}
pub use Rattle.schemars_parts.specs.Assembled.{assembled_view, items_assembled, members_assembled, named_view, reference_to, there_or}
pub use Rattle.schemars_parts.specs.Changing.{IsBesideNull, IsScalar, changed_one, changed_place, forms_by, rules_of}
pub use Rattle.schemars_parts.specs.Searched.{BelongsAt, IsFoundAt}
pub use Rattle.schemars_schema.proofs.SortedMembers.{IsSorted, above-trans, get_member-above, same_members, sorted-entries, sorted-put, sorted-put_all, sorted-without}
pub use Rattle.schemars_schema.specs.Edits.{changed_at, holds_text, replaced, without}
pub use Rattle.schemars_schema.specs.Json.{AreWholeJson, AreWholeJsonMembers, IsAbove, IsWholeJson, Text}
pub use Rattle.schemars_schema.specs.References.{NoSchemas, OneSchema, Place, SchemaList, SchemaOrList, SchemasByName, place_under}
pub use Rattle.schemars_schema.specs.SchemaData.{inserted, put_all, put_members}
pub use Rattle.schemars_text.proofs.FixedMembers.{Fills, Slot, all_found, all_shallow, filled, first_found, found_depth, held, is_some-place_in, keywords_apart, passed_over, slot_at, slot_shallow}
pub use Rattle.schemars_text.proofs.Members.{differ, flipped, get_member-here, get_member-later}
pub use Rattle.schemars_text.proofs.OrderedTexts.{array_written, keyword_found, keyword_missing, object_written, with_groups}
pub use Rattle.schemars_text.specs.OrderedText.{Layout, NamedSchemas, PlainJson, SchemaLayout, arranged, braces, each_written_at, first_keywords, is_listed, item_texts, last_keywords, ordered_text, others, texts, with_commas}
unfoldable pub use Rattle.schemars_text.specs.OrderedText.{member_texts, text_in}
pub use Rattle.schemars_text.specs.Output.{Output, layout_meant, with_token, with_value, with_values}
pub use Rattle.schemars_text.specs.Places.{place_in}
pub use Rattle.schemars_transform.proofs.Asking.{keyword_done, name_done, no_names_left, nothing_left}
pub use Rattle.schemars_transform.proofs.Through.{same_rewritten}
pub use Rattle.schemars_transform.specs.Apart.{is_local}
pub use Rattle.schemars_transform.specs.Built.{bool_rules, const_as_enum, prefix_as_items, with_single_example, without_siblings}
pub use Rattle.schemars_transform.specs.BuiltIn.{function_of, made_by}
pub use Rattle.schemars_transform.specs.Needs.{needed_by_items, needed_by_keywords, needed_by_names, needs_of}
unfoldable pub use Rattle.schemars_transform.specs.Needs.{needed}
pub use Rattle.schemars_transform.specs.Nullable.{null_among, null_taken_out, nullable_by, nulls_in, type_without_null, with_nullable}
pub use Rattle.schemars_transform.specs.Unevaluated.{unevaluated_as_additional}
pub use Rattle.schemars_walk.specs.Rewritten.{all_changed, everywhere, form_at}
unfoldable pub use Rattle.schemars_walk.specs.Rewritten.{forms, in_items, in_keywords, in_names}
pub use Rattle.serde_json.proofs.Views.{get_member-put, get_member-put_other}
pub use Rattle.serde_json.specs.Data.{Data, Items, Members, array, boolean, depth, item, items_depth, member, members_depth, no_items, no_members, null, number, object, put, string}
pub use Rattle.serde_json.specs.Events.{members_len}
pub use Rattle.serde_json.specs.Find.{get_member}
pub use Rattle.serde_json.specs.View.{members_view, view}
pub use Rattle.serde_json.specs.Written.{items_have_float, members_have_float}
pub use Rattle.std.proofs.lemmas.List.{drop-map, drop_all, drop_more, length-map, nil_from_length, take-map}
pub use Rattle.std.proofs.lemmas.List.Elements.{All-from_recursion, recursion_from_All}
pub use Rattle.std.proofs.lemmas.List.Sorted.{All-permutation, IsPermutation-map, IsPermutation-sym}
pub use Rattle.std.proofs.lemmas.Map.Lookups.{exact_bytes}
pub use Rattle.std.proofs.lemmas.Map.Text.{is_eq-slice_cmp}
pub use Rattle.std.proofs.lemmas.Result.{IfOk-weaker, on_ok_weaker}
pub use Rattle.std.proofs.lemmas.Slice.Eq.{bytes_eq-Decides}
pub use Rattle.std.proofs.lemmas.Str.{IsUtf8-from_ascii}
pub use Rattle.std.specs.Cmp.Lexicographic.{slice_cmp}
pub use Rattle.std.specs.List.{AllByRecursion, insert, remove}
pub use Rattle.std.specs.Prelude.{IfSome, IsUtf8, Option, bytes_eq, codes, ⊤, ◌==◌}
pub use Rattle.std.specs.Str.{IsAscii}
