-- Words that many proofs of this crate name.
pub use Rattle.schemars_readable.specs.Expressions.{AreExpressionsOf, AreOwn, IsReadFrom, IsRefusalAmong, asked_of, each_name, named, patterns_in, patterns_of, with_patterns}
pub use Rattle.schemars_readable.specs.Following.{AreAmong, AreFollowed, IsGrown, leads_to}
pub use Rattle.schemars_readable.specs.Forms.{is_malformed}
pub use Rattle.schemars_readable.specs.Refused.{IsRead, IsRefusal}
pub use Rattle.schemars_readable.specs.Standing.{StandsAt, escaped_character, escaped_characters, inside, reference_of, referred, schemas_referred, standing}
unfoldable pub use Rattle.schemars_readable.specs.Standing.{schemas_at, schemas_inside, schemas_listed, schemas_named, schemas_under}
pub use Rattle.schemars_readable.specs.Translation.{after, at_end, place_after, written, written_from}
unfoldable pub use Rattle.schemars_readable.specs.Translation.{expression_of}
pub use Rattle.schemars_readable.specs.Unread.{IsUnreadAt, has_pair, is_told, told, unread_among, unread_of, with_new}
pub use Rattle.schemars_schema.specs.Json.{Text}
pub use Rattle.schemars_schema.specs.SchemaData.{is_schema}
pub use Rattle.schemars_text.specs.OrderedText.{is_listed}
pub use Rattle.serde_json.proofs.Views.{view-lookup, view_of_ref}
pub use Rattle.serde_json.specs.Data.{Data, Items, Members, array, boolean, float, item, member, no_items, no_members, number, object, string, unsigned}
pub use Rattle.serde_json.specs.View.{items_view, members_view, view}
pub use Rattle.std.proofs.lemmas.Iterator.{YieldsList-from_chars}
pub use Rattle.std.proofs.lemmas.Iterator.Consumers.{YieldsList-end}
pub use Rattle.std.proofs.lemmas.List.{get_or_append_left, get_or_default, take-append-le, take_all}
pub use Rattle.std.proofs.lemmas.List.Elements.{All-append, All-contains, All-contains_itself, All-more, All-push, All-weaker, Contains-append_cases, Contains-append_left, Contains-append_right, Contains-push, Contains-push_cases}
pub use Rattle.std.proofs.lemmas.List.Sorted.{list_any-IsPermutation}
pub use Rattle.std.proofs.lemmas.Result.{err_from_is_err_and}
pub use Rattle.std.proofs.lemmas.Slice.Eq.{bytes_eq-Decides}
pub use Rattle.std.proofs.lemmas.Str.Pattern.{strip_prefix_char}
pub use Rattle.std.specs.Float.Ieee.{fin}
unfoldable pub use Rattle.std.specs.Float.Ieee.{eq, le, lt}
unfoldable pub use Rattle.std.specs.Fmt.{digits}
pub use Rattle.std.specs.HashSet.{HashSet, PutsKey}
pub use Rattle.std.specs.List.{list_any}
pub use Rattle.std.specs.Prelude.{String, bytes_eq, codes, if◌then◌else◌, not, string_bytes, ◌&&◌, ◌||◌}
unfoldable pub use Rattle.std.specs.Str.{chars}
unfoldable pub use lib.Utf8.{encode}
