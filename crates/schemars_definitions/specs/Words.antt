-- Words that many contracts of this crate name.
pub use Rattle.json.specs.Print.{quoted}
pub use Rattle.schemars_definitions.specs.Entries.{has_name}
pub use Rattle.schemars_definitions.specs.Joined.{HasNoDefinitions, HasPlaceAt}
pub use Rattle.schemars_definitions.specs.Kept.{AreOrdered, IsOrdered, definition_in, definitions_by_name, definitions_in}
pub use Rattle.schemars_definitions.specs.Keys.{HasKeysOnce}
pub use Rattle.schemars_definitions.specs.Texts.{IsWholeTextOf}
pub use Rattle.schemars_definitions.specs.Whole.{each_made, with_names}
pub use Rattle.schemars_schema.specs.Edits.{replaced, without}
pub use Rattle.schemars_schema.specs.Json.{AreWholeJson, AreWholeJsonMembers, IsWholeJson}
pub use Rattle.schemars_schema.specs.Numbers.{IsWholeNumber}
pub use Rattle.schemars_text.specs.OrderedText.{NamedSchemas, definitions_text, member_texts, ordered_text, texts, with_commas}
pub use Rattle.schemars_transform.specs.BuiltIn.{made_by}
pub use Rattle.schemars_transform.specs.Needs.{needs_of}
pub use Rattle.serde_json.specs.Data.{Data, Members, boolean, no_members, put}
pub use Rattle.serde_json.specs.Find.{get_member}
pub use Rattle.serde_json.specs.Rows.{map_row}
pub use Rattle.serde_json.specs.View.{items_view, members_view, number_view, view}
pub use Rattle.serde_json.specs.Written.{comma_if, has_float, members_have_float}
pub use Rattle.std.specs.BTreeMap.{get_by_text, insert_entry}
pub use Rattle.std.specs.Borrow.{Lends, sem}
pub use Rattle.std.specs.Map.{set_value}
