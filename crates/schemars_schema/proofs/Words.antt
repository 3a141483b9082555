-- Words that many proofs of this crate name.
pub use Prim.Native.String.{String}
pub use Rattle.schemars_schema.specs.Acceptance.{accepts, context, count_of_definitions, judge, keywords, read_members, reading_at}
unfoldable pub use Rattle.schemars_schema.specs.Acceptance.{all_keywords, follow, read_data}
pub use Rattle.schemars_schema.specs.Annotations.{AreNotes, is_annotation, keyword_names}
pub use Rattle.schemars_schema.specs.Applicators.{items_say, unevaluated_properties_say}
pub use Rattle.schemars_schema.specs.Assertions.{code_points, const_says, count_of_number, is_of_some_type, types_in}
pub use Rattle.schemars_schema.specs.Comparison.{numbers_by}
pub use Rattle.schemars_schema.specs.Dialects.{Dialect, draft07, draft2019_09, draft2020_12, openapi3}
pub use Rattle.schemars_schema.specs.Edits.{changed_at, holds_text, replaced, with_item, with_last, without}
pub use Rattle.schemars_schema.specs.Encoding.{begins_escape, encoded_byte, has_escape, hex_digit, hex_value, is_hex_digit, lookup, stays, text_of_bytes}
unfoldable pub use Rattle.schemars_schema.specs.Encoding.{encoded, percent_decoded, percent_decoded_bytes}
pub use Rattle.schemars_schema.specs.Json.{AreJsonOf, AreMembersOf, IsAbove, IsJson, IsJsonOf, IsWholeJson, Text, are_distinct, is_among, json_eq, json_same, members_same, number_same}
unfoldable pub use Rattle.schemars_schema.specs.Json.{alike, items_alike, members_alike}
pub use Rattle.schemars_schema.specs.Judges.{Context, Judge, Patterns, Raw, Reading, each_member, matches, where_some}
pub use Rattle.schemars_schema.specs.Literal.{ArePlainMembers, IsPlainLiteral, has_literal, is_plain_member, meets_each, where_given}
pub use Rattle.schemars_schema.specs.Lookup.{IsFirstToken, is_whole, pointed, pointed_in, pointed_inside, pointer_text, schema_only}
unfoldable pub use Rattle.schemars_schema.specs.Lookup.{resolved}
pub use Rattle.schemars_schema.specs.Numbers.{IsNumber, IsWholeNumber, number_eq, number_le, of_whole, value_of, whole_of, whole_of_float, with_sign}
pub use Rattle.schemars_schema.specs.Placing.{placed, placed_at, tokens_below, tokens_in, tokens_of}
pub use Rattle.schemars_schema.specs.References.{at_place, found_in_keywords, keywords_with_names, place_under, references, with_list, with_schema}
unfoldable pub use Rattle.schemars_schema.specs.References.{found_in}
pub use Rattle.schemars_schema.specs.SchemaData.{IsSchema, members_in, object_of, put_all, put_members}
pub use Rattle.schemars_schema.specs.Verdict.{No, Open, Verdict, Yes, both, opposite, verdict}
pub use Rattle.schemars_text.proofs.Members.{differ, get_member-here, get_member-later}
pub use Rattle.schemars_text.specs.OrderedText.{is_listed, ordered_text}
unfoldable pub use Rattle.schemars_text.specs.OrderedText.{text_in}
unfoldable pub use Rattle.serde_json.proofs.OnLiterals.{serde_json_on_literals}
pub use Rattle.serde_json.proofs.Paths.{Lacks, unescape_plain, walk_last, walk_part}
pub use Rattle.serde_json.proofs.Views.{Entry, get_member-put, get_member-put_other, members_len-members_view, members_view-insert_entry, view-Array, view-Object, view-lookup, view_of_mut}
pub use Rattle.serde_json.specs.Data.{Data, Items, Members, Num, array, boolean, float, item, member, negative, no_items, no_members, null, number, object, put, string, unsigned}
pub use Rattle.serde_json.specs.Events.{items_len, members_len}
pub use Rattle.serde_json.specs.Find.{as_array, as_i64, as_integer, as_number, as_object, as_str, as_u64, get, get_member, is_float, of_integer, pointer, step, to_float}
unfoldable pub use Rattle.serde_json.specs.Find.{index_of, unescape, walk}
pub use Rattle.serde_json.specs.Number.{is_valid, num_of}
pub use Rattle.serde_json.specs.View.{items_of, items_view, members_view, number_view, view}
pub use Rattle.serde_json.specs.Written.{has_float, members_have_float}
pub use Rattle.std.proofs.Math.Bool.{and-false}
pub use Rattle.std.proofs.Math.Path.{fun_ext}
pub use Rattle.std.proofs.Math.Seq.{drop-append_seam}
pub use Rattle.std.proofs.lemmas.Bool.{and_parts, cases_lt, not-true, or_parts}
pub use Rattle.std.proofs.lemmas.Bool.Decides.{Decides-eqb, nat_tests}
pub use Rattle.std.proofs.lemmas.Cmp.{nat_list_cmp_total}
pub use Rattle.std.proofs.lemmas.Float.{T_from_true, eq_flip, eq_trans, le_of_eq, le_trans}
pub use Rattle.std.proofs.lemmas.Grind.{common_steps, get_or_default_zero}
pub use Rattle.std.proofs.lemmas.List.{drop_more, get_or-take, length-take, take-append-drop, take_all}
pub use Rattle.std.proofs.lemmas.List.Splits.{length-slice_split, slice_split_at, slice_split_none}
pub use Rattle.std.proofs.lemmas.Map.Lookups.{exact_bytes}
pub use Rattle.std.proofs.lemmas.Map.Text.{is_eq-slice_cmp}
pub use Rattle.std.proofs.lemmas.Result.{on_ok_weaker}
pub use Rattle.std.proofs.lemmas.Slice.Eq.{bytes_eq-Decides}
pub use Rattle.std.proofs.lemmas.Str.{IsCharBoundary-after_ascii, IsUtf8-append, IsUtf8-drop, IsUtf8-encode, IsUtf8-from_ascii, IsUtf8-from_is_utf8, IsUtf8-nil, IsUtf8-string_bytes, encode_ascii, utf8_valid_len-IsUtf8}
pub use Rattle.std.proofs.lemmas.Str.Ascii.{IsAscii-cons, IsAscii-nil}
pub use Rattle.std.proofs.lemmas.Str.Pattern.{find_char, split_parts, strip_prefix_char}
pub use Rattle.std.specs.BTreeMap.{is_at}
pub use Rattle.std.specs.Cmp.{signed_Decides}
pub use Rattle.std.specs.Cmp.Lexicographic.{slice_cmp}
pub use Rattle.std.specs.Cow.{cow_str_bytes}
pub use Rattle.std.specs.Float.{Float, binary64, fin, inf, minus_one, nan, two_to}
unfoldable pub use Rattle.std.specs.Float.{float_is_finite}
pub use Rattle.std.specs.Float.Ieee.{down, up}
unfoldable pub use Rattle.std.specs.Float.Ieee.{eq, le, lt}
pub use Rattle.std.specs.List.{AllByRecursion, list_all, onto_first, slice_split}
unfoldable pub use Rattle.std.specs.List.Sorted.{IsStrictlySortedBy}
pub use Rattle.std.specs.Map.{keys_of, remove_entry, set_value}
pub use Rattle.std.specs.Option.{ghost_name_of}
pub use Rattle.std.specs.Ordering.{int_eq, match_ordering, ordering_reverse}
pub use Rattle.std.specs.Prelude.{All, Err, IfOk, IsTrue, IsUtf8, None, Ok, OnSome, Option, Result, Some, bytes_eq, codes, if◌then◌else◌, int_le, is_some, nat_le, nat_lt, negsuc, not, option_and_then, option_map, pos, ⊤, ◌&&◌, ◌==◌, ◌||◌}
pub use Rattle.std.specs.Slice.Iter.{iter_rest}
pub use Rattle.std.specs.Str.{IsAscii, is_utf8}
pub use Rattle.std.specs.Str.Lossy.{valid_len_up_to}
unfoldable pub use Rattle.std.specs.Str.Lossy.{utf8_valid_len}
pub use borrow.Author.Tests.{eqb-true, ltb-true}
pub use borrow.Follows.Closed.{read_of}
pub use denote.Shadow.{shadow}
pub use denote.Text.{Utf8}
pub use lib.Ieee.Back.{round_whole}
pub use lib.Ieee.Exact.{HasValue}
pub use lib.Ieee.Fits.{down_pos}
pub use lib.Utf8.{encodes, next, scalar, scalar_cases, scalars}
unfoldable pub use lib.Utf8.{encode}
