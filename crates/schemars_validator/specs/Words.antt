-- Words that many contracts of this crate name.
pub use Rattle.schemars_readable.specs.Drafts.{path_of}
pub use Rattle.schemars_readable.specs.Expressions.{AreExpressionsOf}
pub use Rattle.schemars_readable.specs.Refused.{IsRead, IsRefusal, has_some}
pub use Rattle.schemars_schema.specs.Acceptance.{bound}
pub use Rattle.schemars_schema.specs.Json.{Text}
pub use Rattle.schemars_assertions.specs.Meant.{meant}
pub use Rattle.schemars_validator.specs.Asked.{Accepts, IsOf, Says, has_pair, is_no, pairs_of, some_has}
pub use Rattle.schemars_validator.specs.Texts.{IsReadBy, answers, texts_in_items, texts_in_members, texts_of}
pub use Rattle.serde_json.specs.View.{items_view, members_view, view}
pub use Rattle.std.specs.List.{list_any}
