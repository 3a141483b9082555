-- Words that many proofs of this crate name.
pub use Rattle.fast_float.proofs.Writing.{scan-text_of}
pub use Rattle.fast_float.specs.Text.{IsWellFormed, Parts, digits_of, text_of}
pub use Rattle.json.proofs.Found.{one_reading}
pub use Rattle.json.proofs.Printed.Trees.{value-json_tokens}
pub use Rattle.json.specs.Json.{Json, if_last}
pub use Rattle.json.specs.Lex.{tokens}
pub use Rattle.json.specs.Token.{Token}
pub use Rattle.json.specs.Tree.{items_tokens, json_tokens, members_tokens}
pub use Rattle.schemars_flatten.proofs.Kept.{AllMembers, all_put}
pub use Rattle.schemars_schema.proofs.ByValue.{eq_whole}
pub use Rattle.schemars_schema.proofs.Equalities.{json_eq-sym}
pub use Rattle.schemars_schema.proofs.Members.{get_member-without, without-put}
pub use Rattle.schemars_schema.proofs.SortedMembers.{IsSorted, same_members, sorted-put, sorted-without}
pub use Rattle.schemars_schema.specs.Assertions.{begins_code_point, code_points, is_null}
pub use Rattle.schemars_schema.specs.Edits.{without}
pub use Rattle.schemars_schema.specs.Json.{Text, are_distinct, is_among, json_eq}
unfoldable pub use Rattle.schemars_schema.specs.Json.{alike}
pub use Rattle.schemars_schema.specs.Judges.{Patterns, matches}
pub use Rattle.schemars_schema.specs.Literal.{where_given}
pub use Rattle.schemars_schema.specs.Numbers.{of_whole, value_of}
pub use Rattle.schemars_shapes.specs.IntegerKeys.{integers_of, pattern_of}
pub use Rattle.schemars_shapes.specs.Repeated.{AreDistinctLists}
pub use Rattle.schemars_shapes.specs.Shape.{Entry, Field, Flattened, Payload, Required, Shape, Tagging, Variant, by_name, by_nothing, by_tag, by_tag_and_content, field_of, fields_of, flattened_of, internal_payload_of, internal_variant_of, names_of, newtype_payload, no_payload, numbers_of, of_variants, option_of, payload_names, payload_numbers, payload_of, payload_same, required_of, same_value_numbers, shape_of, struct_payload, tagging_keys, tuple_payload, variant_names, variant_of}
pub use Rattle.schemars_text.proofs.Members.{differ, get_member-here}
pub use Rattle.schemars_text.specs.OrderedText.{is_listed}
pub use Rattle.schemars_types.proofs.Options.{stops}
pub use Rattle.schemars_types.proofs.Settling.{all_options-shape}
pub use Rattle.schemars_types.proofs.Texts.{listed_own, once_by_joining}
pub use Rattle.schemars_types.specs.Edges.{option_at, rank}
pub use Rattle.schemars_types.specs.Effective.{enum_at, expanded_payload, expanded_shape_in, expanded_variant, flattened_enums, flattened_fields, flattened_in, part_enums, part_fields, required_only_if, row_fields, shape_enums, shape_fields, without_options}
unfoldable pub use Rattle.schemars_types.specs.Effective.{enums_within, fields_within}
pub use Rattle.schemars_types.specs.Faults.{IsChecked}
pub use Rattle.schemars_types.specs.Found.{AreListed}
pub use Rattle.schemars_types.specs.KeyOptions.{KeyOptions, all_options, any_text, are_names, distinct_options, external_options, is_key_allowed, key_options, keys, once, or_any_text, shape_options}
pub use Rattle.schemars_types.specs.Meaning.{Member, choices_within, each_of, every_item, every_member, field_member, field_named, has_beside, has_each, has_fields, has_member, has_payload, has_shape, has_tagged, has_variant, holds, is_of_kind, is_required, is_text, matches_of, member_named, must_have, tag_member}
unfoldable pub use Rattle.schemars_types.specs.Meaning.{belongs_within}
pub use Rattle.schemars_types.specs.Rows.{Row, entry_at}
pub use Rattle.schemars_written.specs.Fits.{AreApart, AvoidsTag, Fits, HasFields, HasFlattened, HasList, HasNewtype, HasNumbers, HasOwnFields, HasPart, HasShape, HasStruct, HasTuple, HasUnit, HasVariant, HasVariantAt, IsArrayRow, IsFreeOfBounds, IsKeyUnder, IsNumberRow, LastField, LastItem, Means, MeansJust, MeansJustUnder, MeansUnder, NextField, NextItem, NextOptional, OfSome}
pub use Rattle.schemars_written.specs.Gives.{Beside, Done, Each, EachEntry, First, FirstMember, Gives, GivesAsKey, GivesItems, GivesMembers, IsArray, IsAtKey, IsObject, IsPlain, Named, NoItems, NoMembers, SpellsMembers, Struct, Tagged}
pub use Rattle.schemars_written.specs.Readings.{AnyReading, IsAmong, IsWithin64, Readings, TakesInteger, TakesNatural, TakesWholeNumbers, both, every, inside, of_each, of_entries, of_some, those}
pub use Rattle.schemars_written.specs.Writes.{BelongsAsReadUnder, BelongsUnder}
pub use Rattle.serde.proofs.Spellings.{spelled-AsIs}
pub use Rattle.serde.specs.Event.{Event, InSeq, Log, Logs, Then, WritesEach, WritesEntry, WritesMap, WritesOption, WritesSeq}
pub use Rattle.serde.specs.Spelling.{spelled}
pub use Rattle.serde_json.proofs.Views.{get_member-put, get_member-put_other}
pub use Rattle.serde_json.specs.Data.{Data, Items, Members, Num, array, boolean, depth, float, item, items_depth, member, members_depth, negative, no_items, no_members, null, number, object, put, string, unsigned}
pub use Rattle.serde_json.specs.Events.{SendsItems, SendsMembers, SendsValue, items_len, members_len, number_event}
pub use Rattle.serde_json.specs.Find.{as_array, get, get_member, of_integer}
pub use Rattle.serde_json.specs.Number.{is_valid, num_of}
pub use Rattle.serde_json.specs.Read.{is_integer, max_depth, number_from, of_items, of_json, of_members, read}
unfoldable pub use Rattle.serde_json.specs.Read.{number_of}
pub use Rattle.serde_json.specs.Sent.{AreTokensOf, IsTextOf, ReadsAsDouble, ReadsAsSingle, State, Takes, TakesAll, TakesFloat, start}
pub use Rattle.serde_json.specs.View.{number_view, view}
pub use Rattle.std.proofs.Math.Nat.{eq-or-lt_of_le}
unfoldable pub use Rattle.std.proofs.Math.Utf8.{encode}
pub use Rattle.std.proofs.lemmas.Bool.{leb-true}
pub use Rattle.std.proofs.lemmas.Bool.Decides.{nat_tests}
pub use Rattle.std.proofs.lemmas.Cmp.{int_cmp_total, nat_cmp_total, nat_list_cmp_total, tied_itself}
pub use Rattle.std.proofs.lemmas.Fmt.{decimal_is_IsNumeral, decimal_nonempty}
pub use Rattle.std.proofs.lemmas.Grind.{common_steps}
pub use Rattle.std.proofs.lemmas.Int.{ints}
pub use Rattle.std.proofs.lemmas.List.Elements.{All-head, All-push, All-tail, Contains-append_cases, Contains-append_left, Contains-append_right}
pub use Rattle.std.proofs.lemmas.Nat.{mul-le}
pub use Rattle.std.proofs.lemmas.Slice.Eq.{bytes_eq-Decides}
pub use Rattle.std.proofs.lemmas.Str.{encodes_same}
pub use Rattle.std.specs.Char.{digit_value}
pub use Rattle.std.specs.Cmp.{IsTotalOrder}
pub use Rattle.std.specs.Cmp.Lexicographic.{slice_cmp}
pub use Rattle.std.specs.Float.{float_is_finite}
pub use Rattle.std.specs.Fmt.{sign_text, signed_decimal}
pub use Rattle.std.specs.Int.{w16, w32, w64, w8}
pub use Rattle.std.specs.List.{AllByRecursion, list_any}
unfoldable pub use Rattle.std.specs.List.{IsDistinct}
unfoldable pub use Rattle.std.specs.List.Sorted.{IsStrictlySortedBy}
pub use Rattle.std.specs.Option.{option_map_or}
pub use Rattle.std.specs.Ordering.{bool_cmp, int_cmp, int_eq, ordering_reverse}
pub use Rattle.std.specs.Prelude.{All, Contains, FitsSigned, IfSome, IsTrue, String, bytes_eq, codes, if◌then◌else◌, is_some, map, not, option_and_then, option_map, slice_index_or, string_bytes, ◌&&◌}
pub use Rattle.std.specs.Str.Parse.{AllDigits}
pub use Rattle.std.specs.String.{string_cmp}
pub use mathlib.Core.Bool.{Bool-set}
pub use mathlib.Core.Logic.{∥∥₁_elim}
