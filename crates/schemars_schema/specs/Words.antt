-- Words that many contracts of this crate name.
pub use Rattle.json.specs.Lex.{tokens}
pub use Rattle.json.specs.Print.{print}
pub use Rattle.schemars_schema.specs.Acceptance.{accepts}
pub use Rattle.schemars_schema.specs.Comparison.{numbers_by}
pub use Rattle.schemars_schema.specs.Dialects.{Dialect}
pub use Rattle.schemars_schema.specs.Edits.{changed_at, has_one_member, holds_text, is_text, put_missing, removed, replaced, with_last, without}
pub use Rattle.schemars_schema.specs.Encoding.{begins_escape, encoded, encoded_byte, has_escape, hex_digit, hex_value, is_hex_digit, lookup, percent_decoded, percent_decoded_bytes, stays}
pub use Rattle.schemars_schema.specs.Json.{IsJson, IsWholeJson, Text, alike, items_alike, json_eq, json_same, members_alike, members_same, number_same}
pub use Rattle.schemars_schema.specs.Judges.{Patterns}
pub use Rattle.schemars_schema.specs.Lookup.{IsFirstToken, pointed_in, pointed_inside, pointer_text}
pub use Rattle.schemars_schema.specs.Numbers.{number_eq, of_whole, value_of}
pub use Rattle.schemars_schema.specs.Placing.{placed, placed_at, tokens_below}
pub use Rattle.schemars_schema.specs.SchemaData.{IsSchema, inserted, is_schema, members_in, put_members}
pub use Rattle.schemars_text.specs.OrderedText.{is_listed, ordered_text}
pub use Rattle.schemars_text.specs.Sent.{IsSent, IsSentInPart}
pub use Rattle.serde_json.specs.Data.{Data, Members, array, boolean, float, member, no_items, no_members, number, object, put, string}
pub use Rattle.serde_json.specs.Find.{as_bool, as_object, as_str, get, get_member, is_float, unescape}
pub use Rattle.serde_json.specs.Rows.{map_row}
pub use Rattle.serde_json.specs.View.{items_view, members_view, number_view, view}
pub use Rattle.serde_json.specs.Written.{has_float}
pub use Rattle.std.specs.Borrow.{LendsIf, LendsIfOk, LendsSo, sem}
pub use Rattle.std.specs.Cow.{IsBorrowedStr, cow_str_bytes}
pub use Rattle.std.specs.Float.{Float}
pub use Rattle.std.specs.Float.Ieee.{eq}
pub use Rattle.std.specs.List.{list_all}
