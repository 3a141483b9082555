-- Words that many proofs of this crate name.
pub use Rattle.json.proofs.Printed.Decimals.{IsNumber-decimal, IsNumber-signed_decimal}
pub use Rattle.json.proofs.Printed.Tokens.{tokens-print}
pub use Rattle.json.proofs.Printed.Trees.{ArePrintable-json_tokens, value-json_tokens}
pub use Rattle.json.specs.Print.{IsNumber, print, quoted}
pub use Rattle.json.specs.Tree.{HasNumbers, ItemsHaveNumbers, MembersHaveNumbers, depth, items_depth, items_tokens, json_tokens, members_depth, members_tokens}
pub use Rattle.schemars_definitions.specs.Entries.{has_name, members_by, members_put}
pub use Rattle.schemars_definitions.specs.Joined.{HasPlaceAt, definition_keys}
pub use Rattle.schemars_definitions.specs.Kept.{AreOrdered, IsOrdered, definition_in, definitions_by_name, definitions_in, parsed}
pub use Rattle.schemars_definitions.specs.Keys.{HasKeysOnce}
pub use Rattle.schemars_definitions.specs.Whole.{each_made, with_names}
pub use Rattle.schemars_schema.proofs.Members.{get_member-replaced, get_member-replaced_other, get_member-without}
pub use Rattle.schemars_schema.proofs.SortedMembers.{IsSorted, above-trans, get_member-above, same_members, sorted-entries, sorted-put, sorted-put_members, sorted-replaced, sorted-without}
pub use Rattle.schemars_schema.specs.Edits.{replaced, without}
pub use Rattle.schemars_schema.specs.Json.{AreWholeJson, AreWholeJsonMembers, IsAbove, IsWholeJson, Text}
pub use Rattle.schemars_schema.specs.Numbers.{IsWholeNumber}
pub use Rattle.schemars_schema.specs.SchemaData.{put_members}
pub use Rattle.schemars_text.proofs.Members.{differ, flipped, get_member-here, get_member-later, get_member-member, unequal}
pub use Rattle.schemars_text.proofs.OrderedTexts.{written_at-found, written_at-missing, written_member}
pub use Rattle.schemars_text.specs.OrderedText.{Layout, NamedSchemas, PlainJson, SchemaLayout, Written, arranged, definitions_text, each_written_at, first_keywords, is_listed, last_keywords, layout_inside, layout_under, ordered_text, others, texts, with_commas, written_at}
unfoldable pub use Rattle.schemars_text.specs.OrderedText.{item_texts, member_texts, text_in}
pub use Rattle.serde_json.proofs.Numbers.{number_of-decimal, number_of-negative}
pub use Rattle.serde_json.proofs.Texts.{print-outline}
pub use Rattle.serde_json.proofs.Views.{Entry, get_member-put, get_member-put_other}
pub use Rattle.serde_json.specs.Data.{Data, Items, Members, Num, array, boolean, float, item, member, negative, no_items, no_members, null, number, object, put, string, unsigned}
pub use Rattle.serde_json.specs.Find.{get, get_member, is_float}
pub use Rattle.serde_json.specs.Read.{number_of, of_items, of_json, of_members}
pub use Rattle.serde_json.specs.View.{items_view, members_view, view}
pub use Rattle.serde_json.specs.Written.{comma_if, compact_text, has_float, items_have_float, items_outline, items_text, members_have_float, members_outline, members_text, number_text, outline}
pub use Rattle.std.proofs.Math.Seq.{get_or-append_seam, take-append_seam}
pub use Rattle.std.proofs.lemmas.Bool.{or_parts}
pub use Rattle.std.proofs.lemmas.Cmp.{nat_list_cmp_total}
pub use Rattle.std.proofs.lemmas.List.Elements.{All-cons, All-head, All-nil, All-tail}
pub use Rattle.std.proofs.lemmas.List.Sorted.{All-permutation}
pub use Rattle.std.proofs.lemmas.Map.Text.{hash_map_updates_text, is_eq-slice_cmp, is_text}
pub use Rattle.std.proofs.lemmas.Result.{IfOk-weaker, on_ok_weaker}
pub use Rattle.std.proofs.lemmas.Slice.Eq.{bytes_eq-Decides}
pub use Rattle.std.proofs.lemmas.Str.{IsUtf8-string_bytes}
pub use Rattle.std.specs.BTreeMap.{insert_entry}
pub use Rattle.std.specs.Cmp.Lexicographic.{slice_cmp}
pub use Rattle.std.specs.List.{AllByRecursion, AllZip}
unfoldable pub use Rattle.std.specs.List.{IsDistinct}
unfoldable pub use Rattle.std.specs.List.Sorted.{IsStrictlySortedBy}
pub use Rattle.std.specs.Map.{keys_of, lookup, remove_entry, set_value, values_of}
pub use Rattle.std.specs.Option.{option_or}
pub use Rattle.std.specs.Ordering.{is_eq, is_lt, match_ordering, ordering_reverse}
pub use Rattle.std.specs.Prelude.{All, IsTrue, bytes_eq, codes, filter, if◌then◌else◌, not, option_and_then, option_map, string_eq, unwrap_or, ⊤, ◌||◌, ◌↔◌, ◌⊎◌}
pub use native.Mathlib.Numerals.{unary_clauses}
