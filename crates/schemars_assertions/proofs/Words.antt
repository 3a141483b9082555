-- Words that many proofs of this crate name.
pub use Rattle.schemars_assertions.specs.Meant.{meant}
pub use Rattle.schemars_assertions.specs.Texts.{are_texts, texts_of, with_text}
pub use Rattle.schemars_schema.proofs.ByValue.{eq-left, greatest-whole, le-left, le-right, le_whole, least-whole, none_some, some_same}
pub use Rattle.schemars_schema.proofs.SortedMembers.{IsSorted, sorted-entries}
pub use Rattle.schemars_schema.specs.Assertions.{are_type_names, const_says, enum_says, exclusive_maximum_says, exclusive_minimum_says, from_zero, have_all, is_null, is_of_some_type, is_true, max_items_says, max_length_says, maximum_says, min_items_says, min_length_says, minimum_says, multiple_of_says, pattern_says, required_says, texts_in, type_fits, type_says, types_in, unique_items_says}
pub use Rattle.schemars_schema.specs.Edits.{holds_text, is_text}
pub use Rattle.schemars_schema.specs.Json.{AreJson, AreJsonMembers, IsJson, Text, are_distinct, is_among}
pub use Rattle.schemars_schema.specs.Judges.{each_member, matches, when, where_some}
pub use Rattle.schemars_schema.specs.Numbers.{number_le, of_whole, size_in_64_bits, size_of_whole, value_of, whole_of, whole_of_float, with_sign}
pub use Rattle.schemars_schema.specs.Verdict.{Verdict, Yes, all_of, both, verdict}
pub use Rattle.schemars_text.proofs.Members.{bytes_eq_comm}
pub use Rattle.schemars_text.specs.OrderedText.{is_listed}
pub use Rattle.serde_json.proofs.Views.{Entry, items_len-items_view, members_len-members_view, view-lookup, view_of_ref}
pub use Rattle.serde_json.specs.Data.{Data, Items, Members, Num, array, float, item, negative, no_items, string, unsigned}
pub use Rattle.serde_json.specs.Events.{items_len, members_len}
pub use Rattle.serde_json.specs.Find.{as_array, as_i64, as_integer, as_object, as_str, as_u64, get_member, is_float, to_float}
pub use Rattle.serde_json.specs.Number.{is_valid, num_of}
pub use Rattle.serde_json.specs.View.{items_view, members_view, number_view, view}
pub use Rattle.std.proofs.lemmas.Bool.Decides.{nat_tests}
pub use Rattle.std.proofs.lemmas.Float.{T_from_true}
pub use Rattle.std.proofs.lemmas.Str.{IsUtf8-string_bytes}
pub use Rattle.std.specs.Float.{Float, binary64, fin, inf, minus_one, nan, two_to}
unfoldable pub use Rattle.std.specs.Float.{float_is_finite, float_with_sign}
pub use Rattle.std.specs.Float.Ieee.{eq, le, lt}
pub use Rattle.std.specs.Map.{values_of}
pub use Rattle.std.specs.Prelude.{None, Option, Some, bytes_eq, codes, if◌then◌else◌, int_le, is_some, nat_lt, option_and_then, option_map, string_bytes, ◌&&◌, ◌-◌, ◌==◌, ◌||◌}
pub use lib.Ieee.{down, up}
pub use lib.Ieee.Back.{round_whole}
pub use lib.Ieee.Exact.{HasValue}
pub use lib.Ieee.Fits.{down_pos}
