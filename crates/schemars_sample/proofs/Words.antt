-- Words that many proofs of this crate name.
pub use Rattle.schemars_builders.proofs.Nulls.{IsReady, ready-allow_null, ready-law, ready-schema}
pub use Rattle.schemars_builders.specs.AllowNull.{allow_null, const_or_null, enum_with_null, is_combined, is_null_choice, null_in_const, null_in_enum, null_in_type, null_in_values, or_null, type_with_null}
pub use Rattle.schemars_builders.specs.NullLaw.{context2020_12}
pub use Rattle.schemars_documents.specs.Documents.{byte_document, char_document}
pub use Rattle.schemars_sample.specs.Accepted.{AcceptsExample}
pub use Rattle.schemars_sample.specs.Example.{Entries, Example, Examples, bytes, character, collected_map, decimal, entries_view, entry, example, example_of, examples_view, newtype_struct, newtype_variant, no_entries, no_examples, no_value, seq, some_value, struct, struct_variant, text, truth, tuple, tuple_variant, unit_struct, unit_variant, whole}
pub use Rattle.schemars_sample.specs.SampleJson.{are_bytes, entries_json, items_json, json_array, sample_json}
pub use Rattle.schemars_sample.specs.SampleSchema.{are_all, choice_among, each_once, entry_schemas, holds_everything, is_everything, is_seen, item_schemas, list_schema, map_schema, one_beside, sample_root, sample_schema, shared_by, struct_schema, titled_schema, tuple_schema, value_schemas, with_example, with_name}
pub use Rattle.schemars_schema.proofs.ByValue.{greatest-whole, least-whole}
pub use Rattle.schemars_schema.proofs.Equalities.{json_same-is}
pub use Rattle.schemars_schema.proofs.Members.{get_member-without}
pub use Rattle.schemars_schema.proofs.Objects.{IsSilent, judge-put, schema-judge}
pub use Rattle.schemars_schema.proofs.SortedMembers.{IsSorted, get_member-above, sorted-put}
pub use Rattle.schemars_schema.proofs.Verdicts.{both-verdict, both-yes, opposite-verdict}
pub use Rattle.schemars_schema.specs.Acceptance.{all_named, judge, read_items, read_members}
unfoldable pub use Rattle.schemars_schema.specs.Acceptance.{all_keywords, read_data}
pub use Rattle.schemars_schema.specs.Applicators.{by_position, each_past, schema_named}
pub use Rattle.schemars_schema.specs.Assertions.{begins_code_point, code_points, is_null, is_of_some_type, is_of_type, type_names}
pub use Rattle.schemars_schema.specs.Dialects.{draft2020_12}
pub use Rattle.schemars_schema.specs.Edits.{without}
pub use Rattle.schemars_schema.specs.Json.{Text, json_same}
pub use Rattle.schemars_schema.specs.Judges.{Context, Judge, Patterns, each_member, when, where_some}
pub use Rattle.schemars_schema.specs.Numbers.{number_le, whole_of}
pub use Rattle.schemars_schema.specs.SchemaData.{IsSchema, members_in}
pub use Rattle.schemars_schema.specs.Verdict.{No, Open, Verdict, Yes, both, none_of, opposite, verdict}
pub use Rattle.schemars_templates.specs.Finished.{type_alone, with_meta_schema}
pub use Rattle.schemars_text.proofs.Members.{get_member-here, get_member-later}
pub use Rattle.schemars_text.specs.OrderedText.{is_listed}
pub use Rattle.serde_json.proofs.Views.{get_member-put, get_member-put_other, view-Object}
pub use Rattle.serde_json.specs.Data.{Data, Items, Members, Num, array, boolean, item, member, no_items, no_members, null, number, object, put, string, unsigned}
pub use Rattle.serde_json.specs.Events.{items_len}
pub use Rattle.serde_json.specs.Find.{get_member, of_float, of_integer}
pub use Rattle.serde_json.specs.View.{items_of, items_view, members_view, view}
pub use Rattle.std.proofs.Math.Bool.{or-true}
unfoldable pub use Rattle.std.proofs.Math.Utf8.{encode}
pub use Rattle.std.proofs.lemmas.Bool.{and_parts, le-leb, leb-true}
pub use Rattle.std.proofs.lemmas.Bool.Decides.{nat_tests}
pub use Rattle.std.proofs.lemmas.List.{at_drop_all, at_drop_more, map-append}
pub use Rattle.std.proofs.lemmas.Map.Lookups.{exact_bytes}
pub use Rattle.std.proofs.lemmas.Option.{cond_some, none-some, option_and_then_some, same_Some}
pub use Rattle.std.proofs.lemmas.Slice.Eq.{bytes_eq-Decides}
pub use Rattle.std.specs.Cmp.Lexicographic.{slice_cmp}
pub use Rattle.std.specs.List.{AllByRecursion}
pub use Rattle.std.specs.Ordering.{match_ordering}
pub use Rattle.std.specs.Prelude.{None, Option, bytes_eq, codes, encode_utf8, if◌then◌else◌, is_some, nat_le, nat_lt, not, option_and_then, pos, string_bytes, unwrap_or, ℤ, ⊤, ◌&&◌, ◌||◌}
