-- Words that many contracts of this crate name.
pub use Rattle.schemars_assertions.specs.Groups.{by_itself, by_keys, counted_says, is_contained}
pub use Rattle.schemars_assertions.specs.Meant.{meant}
pub use Rattle.schemars_assertions.specs.Texts.{are_texts, texts_of}
pub use Rattle.schemars_schema.specs.Applicators.{contained_count, is_up_to, one_more, or_one}
pub use Rattle.schemars_schema.specs.Assertions.{are_type_names, code_points, const_says, count_of_number, dependent_required_says, enum_says, exclusive_bound, exclusive_maximum_says, exclusive_minimum_says, from_zero, have_all, is_divided, is_null, is_of_some_type, is_of_type, is_true, max_items_says, max_length_says, max_properties_says, maximum_says, min_items_says, min_length_says, min_properties_says, minimum_says, multiple_of_says, pattern_says, required_says, type_names, type_says, unique_items_says}
pub use Rattle.schemars_schema.specs.Json.{are_distinct, is_among}
pub use Rattle.schemars_schema.specs.Judges.{each_member, where_some}
pub use Rattle.schemars_schema.specs.Numbers.{number_le, of_whole, size_in_64_bits, size_of_whole, value_of, whole_of, whole_of_float}
pub use Rattle.schemars_schema.specs.Verdict.{Yes, all_of}
pub use Rattle.schemars_text.specs.OrderedText.{is_listed}
pub use Rattle.serde_json.specs.Data.{array, depth, items_depth, members_depth, string, unsigned}
pub use Rattle.serde_json.specs.Find.{get_member, is_float}
pub use Rattle.serde_json.specs.View.{items_view, members_view, number_view, view}
pub use Rattle.std.specs.Float.Ieee.{le}
