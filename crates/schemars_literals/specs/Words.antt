-- Words that many contracts of this crate name.
pub use Rattle.schemars_literals.specs.Keys.{said, said_by, said_of}
pub use Rattle.schemars_literals.specs.Kinds.{is_number_of_kind}
pub use Rattle.schemars_literals.specs.Limits.{within}
pub use Rattle.schemars_literals.specs.Literals.{meets_lists, meets_numbers, meets_texts}
pub use Rattle.schemars_schema.specs.Assertions.{code_points, count_of_number, is_null, whole_number}
pub use Rattle.schemars_schema.specs.Json.{json_eq}
pub use Rattle.schemars_schema.specs.Literal.{has_as_many, has_literal, has_no_more, is_as_long, is_from, is_in_list, is_matched, is_no_longer, is_of_types, is_up_to, meets_each, where_given}
pub use Rattle.schemars_schema.specs.Numbers.{number_eq}
pub use Rattle.schemars_types.specs.KeyOptions.{literal_integers, literal_options, literal_texts, texts_options, typed_options}
pub use Rattle.schemars_types.specs.Meaning.{every_item, greatest_of, holds, is_byte, is_byte_text, is_of_kind, is_text, is_zero, least_of}
pub use Rattle.serde_json.specs.Data.{array, string, unsigned}
pub use Rattle.serde_json.specs.Find.{as_array, as_str, get, get_member}
pub use Rattle.serde_json.specs.View.{items_view, members_view, number_view, view}
