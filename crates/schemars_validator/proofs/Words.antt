-- Words that many proofs of this crate name.
pub use Rattle.regex.specs.Patterns.{find_str}
pub use Rattle.regex.specs.Strings.{matcher_pattern, regex_pattern}
pub use Rattle.schemars_readable.proofs.Refusing.{are_expressions, is_read, is_refusal, told_each, told_only}
pub use Rattle.schemars_readable.proofs.Sets.{put_text}
pub use Rattle.schemars_readable.specs.Expressions.{IsRefusalAmong, asked_of, named, patterns_of, with_patterns}
pub use Rattle.schemars_readable.specs.Standing.{standing}
pub use Rattle.schemars_readable.specs.Unread.{told, unread_of, with_new}
pub use Rattle.schemars_schema.specs.Json.{Text}
pub use Rattle.schemars_schema.specs.Judges.{Patterns, matches}
pub use Rattle.schemars_text.proofs.Members.{bytes_eq_comm}
pub use Rattle.schemars_validator.specs.Asked.{pairs_of, some_has}
pub use Rattle.schemars_validator.specs.Texts.{answers, found_in, some_answer, texts_in_items, texts_in_members, texts_of}
pub use Rattle.serde_json.specs.View.{items_view, members_view, view}
pub use Rattle.std.proofs.lemmas.List.{drop_all, get_or_default}
pub use Rattle.std.proofs.lemmas.Result.{err_from_is_err_and}
pub use Rattle.std.specs.List.{list_any}
pub use Rattle.std.specs.Prelude.{String, bytes_eq, is_some, string_bytes, ◌&&◌, ◌||◌}
