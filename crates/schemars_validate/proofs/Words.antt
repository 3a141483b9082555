-- Words that many proofs of this crate name.
pub use Rattle.schemars_assertions.specs.Groups.{by_itself, by_keys, counted_says}
pub use Rattle.schemars_assertions.specs.Meant.{meant}
pub use Rattle.schemars_schema.proofs.Containers.{object-as_object}
pub use Rattle.schemars_schema.proofs.Objects.{judge-object}
unfoldable pub use Rattle.schemars_schema.proofs.Objects.{says}
pub use Rattle.schemars_schema.proofs.Verdicts.{both-assoc, both-middle, both-swap, both-yes}
pub use Rattle.schemars_schema.specs.Acceptance.{all_named, both_some, context, is_reference, judge, read_items, read_members, reference_alone, some_named, truth_value, unanswered, with_schema}
unfoldable pub use Rattle.schemars_schema.specs.Acceptance.{all_keywords, follow, read_data}
pub use Rattle.schemars_schema.specs.Applicators.{additional_properties_say, beside_members, by_patterns, by_position, chosen, condition_says, contains_says, count_of_fitting, count_of_positions, dependencies_say, dependent_schemas_say, each_item_left, each_past, each_says, is_covered, items_say, matches_some, named_in, one_more, past_list_say, past_say, pattern_properties_say, positions_say, properties_say, property_names_say, reference_says, schema_named, schema_says, unevaluated_items_say, unevaluated_properties_say}
pub use Rattle.schemars_schema.specs.Assertions.{dependent_required_says}
pub use Rattle.schemars_schema.specs.Dialects.{Dialect, reads_dependencies}
pub use Rattle.schemars_schema.specs.Encoding.{lookup, percent_decoded}
pub use Rattle.schemars_schema.specs.Evaluated.{branch_of, has_schema, judged_beside, judged_by, judged_by_condition, judged_by_contains, judged_by_dependents, judged_by_items, judged_by_list, judged_by_position, judged_by_reference, judged_by_schema, judged_by_some, judged_itself, judges_rest}
pub use Rattle.schemars_schema.specs.Json.{Text}
pub use Rattle.schemars_schema.specs.Judges.{Context, Judge, Part, Patterns, Raw, Reading, each_member, key, matches, position, when, where_read, where_some}
pub use Rattle.schemars_schema.specs.Lookup.{schema_only}
unfoldable pub use Rattle.schemars_schema.specs.Lookup.{resolved}
pub use Rattle.schemars_schema.specs.SchemaData.{is_schema}
pub use Rattle.schemars_schema.specs.Verdict.{No, Open, Verdict, Yes, all_of, any_of, both, is_yes, none_of, one_of, opposite, verdict}
pub use Rattle.schemars_text.proofs.Lists.{from_here, nothing_left}
pub use Rattle.schemars_text.proofs.Members.{get_member-member}
pub use Rattle.schemars_validate.specs.Joined.{SoFar, joined_by, so_far, taken_by, with_each, with_one}
pub use Rattle.schemars_validate.specs.Judged.{at_keys, at_positions, each_unmarked, each_unmarked_item, first_marked, fits_at, is_marked, is_matched, is_named, is_placed, is_taken, judged_beside_members, judged_by_one, keys_in, marked, matches_one, parts_of, positions_in, united, unmarked, unmarked_by}
pub use Rattle.schemars_validate.specs.Parts.{besides, dependents_by, each_item, first_schemas, inside, items_by, items_or_none, member_by, members_by, names_by, other_schema, reads}
pub use Rattle.schemars_validate.specs.Schemas.{are_named_schemas, are_schemas, first_of, judge_at, judges_among, judges_among_in, judges_in, judges_of, members_where_read, named_judges, named_judges_in, schema_at, schema_of_rest, schema_where_read, schemas_by_name, schemas_in, schemas_where_read}
pub use Rattle.serde_json.proofs.Views.{Entry}
pub use Rattle.serde_json.specs.Data.{Data, Items, Members, array, boolean, depth, item, items_depth, member, members_depth, no_items, no_members, null, number, object, string}
pub use Rattle.serde_json.specs.Events.{items_len}
pub use Rattle.serde_json.specs.Find.{as_array, as_bool, as_object, as_str, get_item, get_member, index_of, pointer, step, unescape}
unfoldable pub use Rattle.serde_json.specs.Find.{walk}
pub use Rattle.serde_json.specs.View.{items_view, members_view, view}
pub use Rattle.std.proofs.Math.Path.{fun_ext}
pub use Rattle.std.proofs.lemmas.Bool.Decides.{nat_tests}
pub use Rattle.std.proofs.lemmas.Result.{IfOk-weaker}
pub use Rattle.std.proofs.lemmas.Str.Pattern.{strip_prefix_char}
pub use Rattle.std.specs.Cow.{cow_str_bytes}
pub use Rattle.std.specs.Prelude.{bytes_eq, codes, if◌then◌else◌, is_some, length, map, max, nat_lt, not, option_and_then, option_map, string_bytes, unwrap_or, ◌&&◌, ◌==◌, ◌||◌}
pub use Rattle.std.specs.Slice.Iter.{iter_rest, iter_steps}
