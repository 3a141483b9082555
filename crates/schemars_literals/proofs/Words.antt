-- Words that many proofs of this crate name.
pub use Rattle.schemars_assertions.proofs.Texts.{holds_listed, texts_found}
pub use Rattle.schemars_assertions.specs.Texts.{are_texts, texts_of}
pub use Rattle.schemars_literals.specs.Keys.{any_said, said}
pub use Rattle.schemars_literals.specs.Kinds.{is_from, is_number_of_kind, is_up_to}
pub use Rattle.schemars_schema.proofs.ByValue.{equal-whole, greatest-whole, least-whole}
pub use Rattle.schemars_schema.specs.Assertions.{are_type_names, is_of_some_type, types_in}
pub use Rattle.schemars_schema.specs.Edits.{holds_text}
pub use Rattle.schemars_schema.specs.Json.{Text}
pub use Rattle.schemars_schema.specs.Judges.{Patterns, when}
pub use Rattle.schemars_schema.specs.Literal.{is_of_types}
pub use Rattle.schemars_schema.specs.Numbers.{number_eq, whole_of}
pub use Rattle.schemars_text.specs.OrderedText.{is_listed}
pub use Rattle.schemars_types.specs.KeyOptions.{KeyOptions, any_text, keys, texts_options}
pub use Rattle.schemars_types.specs.Meaning.{every_item, greatest_of, holds, is_at_least, is_at_most, is_byte, is_of_kind, is_zero, least_of}
pub use Rattle.serde_json.specs.Data.{Data, Items, Num, array, unsigned}
pub use Rattle.serde_json.specs.View.{items_view}
pub use Rattle.std.proofs.lemmas.Bool.Decides.{nat_tests}
pub use Rattle.std.specs.Ordering.{int_eq}
pub use Rattle.std.specs.Prelude.{is_some, not, option_and_then, ◌&&◌}
