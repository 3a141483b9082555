-- Words that many contracts of this crate name.
pub use Rattle.json.specs.Json.{items, members, value}
pub use Rattle.json.specs.Reads.{token_of}
pub use Rattle.schemagen_json.specs.BorrowedValue.{data_of, items_data, members_data}
pub use Rattle.schemagen_json.specs.Members.{has_only, lone_in}
pub use Rattle.schemars_text.specs.OrderedText.{is_listed}
pub use Rattle.serde_json.specs.Data.{no_members}
pub use Rattle.serde_json.specs.Find.{get_member}
pub use Rattle.serde_json.specs.Read.{converted, of_items, of_json, of_members}
