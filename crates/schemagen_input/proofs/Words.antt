-- Words that many proofs of this crate name.
pub use Rattle.fast_float.specs.Text.{Parts, digits_of, minus, nearest, scan, with_sign}
pub use Rattle.json.proofs.Grammar.{read_key-shorter, value_is}
pub use Rattle.json.specs.Json.{after_end_array, items, members, parse_map, read_key, value}
pub use Rattle.json.specs.Lex.{tokens}
pub use Rattle.json.specs.Reads.{token_of}
pub use Rattle.json.specs.Token.{Token}
pub use Rattle.schemagen_input.specs.Gathered.{AreOfEnum, AreOfField, AreOfRow, AreOfStruct, AreOfTagged, AreOfVariant, AreSeveral, can_be_lone}
pub use Rattle.schemagen_input.specs.Input.{all_fit, heading_in, ids_differ, ids_of, input_of, is_complete, is_table, refers_within, row_in, row_names, rows_in, table_in, table_names, unentered}
pub use Rattle.schemagen_input.specs.Listing.{AreBegun, AreListed, AreMembersOf, BeginsNoTable, IsListIn, IsNoTable, IsRowIn, IsTableOf, headings_in}
pub use Rattle.schemagen_input.specs.SampleInput.{AreAsRead, AreMembersAsRead, IsAsRead, items_input, members_input, sample_input}
pub use Rattle.schemagen_input.specs.Tokens.{listed, with_last}
pub use Rattle.schemagen_input.specs.Written.{CanBeWritten, field_json, flattened_json, has_library_shape, is_library_shape, json_of, kind_json, payload_json, row_json, shape_json, variant_json, whole}
pub use Rattle.schemagen_json.proofs.Members.{are_listed-put, map-push}
pub use Rattle.schemagen_json.proofs.Reading.{array_opened, array_too_deep, boolean_read, item_read, item_refused, items_at, items_before, items_before-none, items_closed, member_read, member_refused, members_at, members_closed, name_refused, nothing_read, null_read, number_read, number_refused, object_opened, object_too_deep, one_more_item, read_at, string_read}
pub use Rattle.schemagen_json.specs.BorrowedValue.{data_of}
pub use Rattle.schemagen_json.specs.Members.{are_listed, has_only, lone_in}
pub use Rattle.schemagen_shapes.specs.Forms.{adjacent_in, adjacent_names, externally_tagged, field_in, field_names, flattened_from, internal_in, internal_names, internal_variant_in, internals_in, items_under, kind_in, needed_member, number_in, optional_member, payload_in, payload_inside, read_each, read_list, required, required_in, variant_in, variant_inside, variant_keys}
pub use Rattle.schemagen_shapes.specs.Shapes.{entry_in, fixed_under, list_under, literal_in, plain_under, shape_in, shape_named, shape_under}
pub use Rattle.schemars_sample.proofs.Results.{if_mapped, if_next}
pub use Rattle.schemars_sample.specs.Example.{Entries, Example, Examples, decimal, entries_view, entry, example, example_of, examples_view, no_entries, no_examples}
pub use Rattle.schemars_sample.specs.SampleJson.{entries_json, items_json, sample_json}
pub use Rattle.schemars_schema.proofs.SortedMembers.{IsSorted, sorted-put}
pub use Rattle.schemars_schema.specs.Json.{IsAbove, Text}
pub use Rattle.schemars_schema.specs.Numbers.{IsNumber}
pub use Rattle.schemars_schema.specs.SchemaData.{put_members}
pub use Rattle.schemars_shapes.specs.Shape.{Entry, Field, Fields, Flattened, Payload, Required, Shape, Variant, any, bare_fields, bool, bound, by_name, by_nothing, by_tag, by_tag_and_content, bytes, char, either, entry_of, enum, field_of, flattened_of, formatted, in_place, int, literal, map_from, newtype, newtype_payload, no_payload, non_zero, numbers_of, option, payload_of, range, required_of, result, schema_itself, seq, set, shape_of, struct, struct_payload, text, tuple, tuple_payload, up_to, without_notes}
pub use Rattle.schemars_text.proofs.Members.{flipped}
pub use Rattle.schemars_text.specs.OrderedText.{is_listed}
pub use Rattle.schemars_types.specs.Refusals.{refusal_of}
pub use Rattle.schemars_types.specs.Rows.{Row, defined, holds_another, place_of, reserved, unknown_in, with_entry}
unfoldable pub use Rattle.serde_json.proofs.OnLiterals.{serde_json_on_literals}
pub use Rattle.serde_json.proofs.Views.{get_member-put, get_member-put_other}
pub use Rattle.serde_json.specs.Data.{Data, Items, Members, Num, array, boolean, float, item, member, negative, no_items, no_members, null, number, object, put, string, unsigned}
pub use Rattle.serde_json.specs.Find.{as_array, as_bool, as_object, as_str, get}
pub use Rattle.serde_json.specs.Read.{converted, float_of, is_integer, max_depth, number_from, of_items, of_json, of_members, read}
unfoldable pub use Rattle.serde_json.specs.Read.{number_of}
pub use Rattle.serde_json.specs.View.{items_of, items_view, members_view}
pub use Rattle.std.proofs.Math.Bool.{and-false, or-true}
pub use Rattle.std.proofs.Math.ListN.{drop_of_length-le}
pub use Rattle.std.proofs.lemmas.Bool.{and_parts, cond_both, le-leb, leb-true, ltb-true, not-true}
pub use Rattle.std.proofs.lemmas.Bool.Decides.{nat_tests}
pub use Rattle.std.proofs.lemmas.Cmp.{nat_list_cmp_total, tied_itself}
pub use Rattle.std.proofs.lemmas.List.{drop_more, length-append, length-map}
pub use Rattle.std.proofs.lemmas.List.Folds.{list_all-append}
pub use Rattle.std.proofs.lemmas.Map.Text.{is_eq-slice_cmp}
pub use Rattle.std.proofs.lemmas.Option.{option_and_then_some}
pub use Rattle.std.proofs.lemmas.Result.{IfErr-weaker, IfOk-weaker}
pub use Rattle.std.proofs.lemmas.Slice.Eq.{bytes_eq-Decides}
pub use Rattle.std.specs.Cmp.Lexicographic.{slice_cmp}
pub use Rattle.std.specs.Float.{binary64, float_is_finite, minus_two_to, two_to}
pub use Rattle.std.specs.Float.Ieee.{lt}
pub use Rattle.std.specs.List.{find, list_all, list_any, position_from}
pub use Rattle.std.specs.Option.{IfSome, option_map_or}
pub use Rattle.std.specs.Ordering.{match_ordering, ordering_reverse}
pub use Rattle.std.specs.Prelude.{drop, if◌then◌else◌, nat_le, nat_lt, option_and_then, option_map, slice_index, string_bytes, ⊤, ◌&&◌, ◌-◌, ◌==◌, ◌^◌}
pub use Rattle.std.specs.Str.{bytes_eq}
