-- Words that many contracts of this crate name.
pub use Rattle.schemars_assertions.specs.Meant.{meant}
pub use Rattle.schemars_schema.specs.Acceptance.{accepts, bound, context, count_of_definitions, follow, is_reference, judge}
pub use Rattle.schemars_schema.specs.Applicators.{by_patterns, condition_says, contains_says, count_of_fitting, dependencies_say, matches_some, reference_says}
pub use Rattle.schemars_schema.specs.Dialects.{reads_dependencies}
pub use Rattle.schemars_schema.specs.Evaluated.{judged_beside, judged_by, judged_by_condition, judged_by_contains, judged_by_reference, judged_by_some, judged_itself}
pub use Rattle.schemars_schema.specs.Judges.{Raw, where_some}
pub use Rattle.schemars_schema.specs.Lookup.{resolved, schema_only}
pub use Rattle.schemars_text.specs.OrderedText.{is_listed}
pub use Rattle.schemars_schema.specs.Verdict.{No, Yes, all_of, is_yes}
pub use Rattle.schemars_validate.specs.Joined.{joined_by, so_far, taken_by, with_one}
pub use Rattle.schemars_validate.specs.Judged.{at_keys, at_positions, each_unmarked, each_unmarked_item, first_marked, fits_at, is_marked, is_matched, is_named, is_placed, is_taken, judged_beside_members, judged_by_one, keys_in, marked, matches_one, parts_of, positions_in, united, unmarked, unmarked_by}
pub use Rattle.schemars_validate.specs.Memos.{IsKnown, IsKnownAt, KeepsAround}
pub use Rattle.schemars_validate.specs.Parts.{besides, dependents_by, first_schemas, inside, items_by, items_or_none, member_by, members_by, names_by, other_schema, reads}
pub use Rattle.schemars_validate.specs.Schemas.{are_named_schemas, are_schemas, first_of, judge_at, judges_among_in, judges_in, judges_of, members_where_read, named_judges_in, schema_at, schema_of_rest, schema_where_read, schemas_by_name, schemas_in, schemas_where_read}
pub use Rattle.serde_json.specs.Data.{array, object, string}
pub use Rattle.serde_json.specs.Events.{items_len}
pub use Rattle.serde_json.specs.Find.{as_str, get_member}
pub use Rattle.serde_json.specs.View.{items_view, members_view, view}
