-- Words that many proofs of this crate name.
pub use Prim.Native.String.{String}
pub use Rattle.schemars_builders.specs.AllowNull.{accepts_everything, allow_null, const_admits_null, const_or_null, enum_admits_null, enum_with_null, holds_null, holds_null_schema, is_combined, is_null_choice, is_null_schema, null_in_const, null_in_enum, null_in_type, null_in_values, null_schema, offers_null, or_null, type_with_null}
pub use Rattle.schemars_builders.specs.Documentation.{description_in, description_of, ends_line, is_headed, is_mark, title_in, title_of, trimmed, trimmed_start, without_marks}
pub use Rattle.schemars_builders.specs.Keywords.{with_metadata, with_validation}
pub use Rattle.schemars_builders.specs.NullLaw.{AcceptsNull, AcceptsNullToo, HasPlainValues, HasTypeForm, IsChoice, IsDraft, IsNullable, IsPlain, OffersNull, SomeAcceptsNull, context_of, text_items, zero_schema}
pub use Rattle.schemars_builders.specs.Pattern.{escaped_byte, is_special}
unfoldable pub use Rattle.schemars_builders.specs.Pattern.{escaped, unescaped}
pub use Rattle.schemars_builders.specs.Properties.{required_unless, with_property}
pub use Rattle.schemars_schema.proofs.Changes.{changed_missing, changed_there}
pub use Rattle.schemars_schema.proofs.Encodings.{are_ascii}
pub use Rattle.schemars_schema.proofs.JsonLiterals.{one, text}
pub use Rattle.schemars_schema.proofs.Lists.{items_view-push}
pub use Rattle.schemars_schema.proofs.Literals.{literal_judged, plain_absent, plain_at}
pub use Rattle.schemars_schema.proofs.Members.{get_member-without, without-put}
pub use Rattle.schemars_schema.proofs.Objects.{judge-object, says-agree, schema-judge}
unfoldable pub use Rattle.schemars_schema.proofs.Objects.{says}
pub use Rattle.schemars_schema.proofs.Silent.{items_none, silent, unevaluated_none}
pub use Rattle.schemars_schema.proofs.Verdicts.{both-yes, either-verdict}
pub use Rattle.schemars_schema.specs.Acceptance.{accepts, both_some, context, follow, is_reference, judge, nothing, read_items, reference_alone}
unfoldable pub use Rattle.schemars_schema.specs.Acceptance.{all_keywords, read_data}
pub use Rattle.schemars_schema.specs.Applicators.{each_says, items_say, not_says, past_say, unevaluated_properties_say}
pub use Rattle.schemars_schema.specs.Assertions.{are_type_names, const_says, enum_says, is_null, is_of_some_type, is_of_type, texts_in, type_names, type_says, types_in}
pub use Rattle.schemars_schema.specs.Dialects.{Dialect, draft2020_12}
pub use Rattle.schemars_schema.specs.Edits.{holds_text, is_text, with_first, with_item, with_member, without}
pub use Rattle.schemars_schema.specs.Json.{Text, is_among, json_eq}
unfoldable pub use Rattle.schemars_schema.specs.Json.{alike}
pub use Rattle.schemars_schema.specs.Judges.{Context, Judge, Patterns, Raw, Reading, when, where_read, where_some}
pub use Rattle.schemars_schema.specs.Literal.{ArePlainMembers, IsPlainLiteral, has_literal}
pub use Rattle.schemars_schema.specs.SchemaData.{IsSchema, inserted, members_in, object_of}
pub use Rattle.schemars_schema.specs.Verdict.{No, Open, Verdict, Yes, any_of, both, none_of, opposite, verdict}
pub use Rattle.schemars_text.proofs.Members.{get_member-later}
pub use Rattle.schemars_text.specs.OrderedText.{is_listed}
pub use Rattle.serde_json.proofs.Views.{Entry, get_member-put, get_member-put_other, view-Array, view-Object, view-lookup}
pub use Rattle.serde_json.specs.Data.{Data, Items, Members, array, boolean, item, member, no_items, no_members, null, number, object, put, string, unsigned}
pub use Rattle.serde_json.specs.Events.{members_len}
pub use Rattle.serde_json.specs.Find.{as_str, get, get_member}
pub use Rattle.serde_json.specs.View.{items_of, items_view, members_view, view}
pub use Rattle.std.proofs.Math.Bool.{and-false, or-false, or-true, or_assoc}
pub use Rattle.std.proofs.lemmas.Bool.{and_parts, cases_lt, eqb-true, or_parts}
pub use Rattle.std.proofs.lemmas.Bool.Decides.{nat_tests}
pub use Rattle.std.proofs.lemmas.Iterator.{YieldsList-from_chars}
pub use Rattle.std.proofs.lemmas.Iterator.Consumers.{YieldsList-end}
pub use Rattle.std.proofs.lemmas.List.{drop_all, take_all}
pub use Rattle.std.proofs.lemmas.Map.Text.{is_eq-slice_cmp}
pub use Rattle.std.proofs.lemmas.Option.{same_Some}
pub use Rattle.std.proofs.lemmas.Result.{err_from_is_err_and, on_ok_weaker}
pub use Rattle.std.proofs.lemmas.Slice.Eq.{bytes_eq-Decides}
pub use Rattle.std.proofs.lemmas.Str.{encode_ascii, encodes-append, encodes-chars, inside_one, len_utf8_ascii}
pub use Rattle.std.proofs.lemmas.Str.Ascii.{trim_ascii_is}
pub use Rattle.std.proofs.lemmas.Str.Pattern.{drop_at_char, split_once_first}
pub use Rattle.std.specs.Char.{encode_utf8}
pub use Rattle.std.specs.Cmp.Lexicographic.{slice_cmp}
pub use Rattle.std.specs.List.{after_first, before_first, list_any, position_or_len, prefix_len}
pub use Rattle.std.specs.Ordering.{match_ordering}
pub use Rattle.std.specs.Prelude.{Err, IfSome, IsTrue, IsUtf8, None, Ok, OnOk, Option, Result, Some, bytes_eq, codes, if◌then◌else◌, is_ok, is_some, length, map, nat_lt, not, option_and_then, option_map, slice_index, ◌&&◌, ◌==◌, ◌||◌}
pub use Rattle.std.specs.Str.{IsTrimAscii}
pub use Rattle.std.specs.Str.Pattern.{CutsPrefixes, FindsCharPrefix, IsTrimStartMatches}
pub use borrow.Author.Tests.{ltb-true}
