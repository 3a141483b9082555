-- Words that many proofs of this crate name.
pub use Rattle.schemars_builders.proofs.NullKeywords.{null-json_eq}
pub use Rattle.schemars_laws.specs.Classes.{AreSchemas, AreTexts, HasNoUnevaluated, HasNone, HasPlainItems, HasPlainReference, HasPlainType, IsConstAlone, IsDraft07, IsNoList, IsOnce, IsReferenceAlone, IsSchemaList, IsText, IsTypes, alone_by, beside_by, by_items, by_prefix_items, is_null_alone, of_draft06, of_draft2019_09, plain_nullable, with_const, with_nullable_read, with_unevaluated, without_const, without_nullable_read, without_unevaluated}
pub use Rattle.schemars_laws.specs.Everywhere.{Everywhere, asked_of_items, demanded}
unfoldable pub use Rattle.schemars_laws.specs.Everywhere.{asked, asked_of_keywords, asked_of_members}
pub use Rattle.schemars_laws.specs.Laws.{LeavesReferencesAlone, MovesAcceptance, MovesDocuments, MovesToOpenApi, for_draft07, for_draft2019_09, for_openapi3}
pub use Rattle.schemars_laws.specs.Names.{AreNoObjects, HasNameOf, HasNoObjects, HasPlainUnevaluated, IsMap, IsName, IsNameOf, IsNamedBy, IsNoObject, Named, NamedBy}
pub use Rattle.schemars_laws.specs.Paths.{EachEverywhere, IsDefinitionAt, IsNameAt, MovesComponents, components, components_of, each_changed}
pub use Rattle.schemars_laws.specs.Stages.{AfterNullable, AfterSiblings, Anything, AreSomeTypes, HasSomeTypes, IsForOpenApi, IsTextWith, Stands}
pub use Rattle.schemars_schema.proofs.Members.{get_member-replaced, get_member-replaced_other, get_member-without}
pub use Rattle.schemars_schema.proofs.Objects.{apart, judge-agree, judge-put, reading_at-members, schema-judge}
pub use Rattle.schemars_schema.proofs.Placings.{IsPlain, lookup-definition, plain-components, plain-definitions, plain-defs, pointer-components, pointer-definitions, pointer-defs, resolved-whole}
pub use Rattle.schemars_schema.proofs.Silent.{const_none, items_none, silent, unevaluated_none}
pub use Rattle.schemars_schema.proofs.Verdicts.{both-assoc, both-yes}
pub use Rattle.schemars_schema.specs.Acceptance.{accepts, all_named, both_some, context, is_reference, judge, keywords, nothing, read_items, read_members, reading_at, reference_alone, some_named, truth_value, unanswered}
unfoldable pub use Rattle.schemars_schema.specs.Acceptance.{all_keywords, follow, read_data}
pub use Rattle.schemars_schema.specs.Applicators.{additional_properties_say, condition_says, contains_says, dependencies_say, dependent_schemas_say, each_says, is_covered, items_say, not_says, pattern_properties_say, properties_say, property_names_say, reference_says, unevaluated_items_say, unevaluated_properties_say}
pub use Rattle.schemars_schema.specs.Assertions.{are_type_names, const_says, dependent_required_says, enum_says, exclusive_maximum_says, exclusive_minimum_says, is_null, is_of_some_type, is_of_type, max_items_says, max_length_says, max_properties_says, maximum_says, min_items_says, min_length_says, min_properties_says, minimum_says, multiple_of_says, pattern_says, required_says, texts_in, type_fits, type_names, type_says, types_in, unique_items_says}
pub use Rattle.schemars_schema.specs.Dialects.{Dialect, draft07, draft2019_09, draft2020_12, openapi3, reads_dependencies}
pub use Rattle.schemars_schema.specs.Edits.{changed_at, holds_text, removed, replaced, with_item, with_last, without}
pub use Rattle.schemars_schema.specs.Encoding.{encoded, lookup, text_of_bytes}
unfoldable pub use Rattle.schemars_schema.specs.Encoding.{percent_decoded, percent_decoded_bytes}
pub use Rattle.schemars_schema.specs.Evaluated.{branch_of, has_schema, judged_beside, judged_by, judged_by_condition, judged_by_contains, judged_by_dependents, judged_by_items, judged_by_list, judged_by_reference, judged_by_schema, judged_by_some, judged_itself, judges_rest}
pub use Rattle.schemars_schema.specs.Json.{Text, json_eq}
pub use Rattle.schemars_schema.specs.Judges.{Context, Judge, Part, Patterns, Raw, Reading, Readings, key, position, when, where_some}
pub use Rattle.schemars_schema.specs.Lookup.{schema_only}
unfoldable pub use Rattle.schemars_schema.specs.Lookup.{resolved}
pub use Rattle.schemars_schema.specs.References.{NoSchemas, OneSchema, Place, SchemaList, SchemaOrList, SchemasByName, place_under}
pub use Rattle.schemars_schema.specs.SchemaData.{IsSchema, is_schema, members_in}
pub use Rattle.schemars_schema.specs.Verdict.{No, Open, Verdict, Yes, all_of, any_of, both, is_yes, one_of, opposite, verdict}
pub use Rattle.schemars_text.proofs.Members.{bytes_eq_comm, differ, get_member-member, unequal}
pub use Rattle.schemars_text.specs.OrderedText.{is_listed}
pub use Rattle.schemars_transform.specs.Built.{bool_rules, const_as_enum, first_as_example, old_items_moved, prefix_as_items, prefix_moved, reference_moved, referring, remove_ref_siblings, replace_bool_schemas, replace_const_value, replace_prefix_items, set_single_example, value_as_enum, with_single_example, without_siblings}
pub use Rattle.schemars_transform.specs.Formats.{format_rules, format_stays, restrict_formats}
pub use Rattle.schemars_transform.specs.Nullable.{add_nullable, all_null, null_taken_out, nullable_by, nulls_in, one_or_list, type_without_null, with_nullable, without_null}
pub use Rattle.schemars_transform.specs.Unevaluated.{closed_by, object_with_names, properties_made, properties_named, property_names, replace_unevaluated_properties, unevaluated_as_additional, with_names}
pub use Rattle.schemars_walk.proofs.KeywordLaws.{keywords_get}
pub use Rattle.schemars_walk.specs.Rewritten.{Rules, everywhere, form_at, in_items, read_at, rewritten}
unfoldable pub use Rattle.schemars_walk.specs.Rewritten.{forms, in_keywords, in_names}
unfoldable pub use Rattle.serde_json.proofs.OnLiterals.{serde_json_on_literals}
pub use Rattle.serde_json.proofs.Views.{get_member-put, get_member-put_other}
pub use Rattle.serde_json.specs.Data.{Data, Items, Members, array, boolean, item, member, no_items, no_members, null, number, object, put, string}
pub use Rattle.serde_json.specs.Events.{members_len}
pub use Rattle.serde_json.specs.Find.{as_array, as_bool, as_str, get_member, pointer}
pub use Rattle.std.proofs.Math.Bool.{and-false, and-true, or-false, or-true, or_assoc}
pub use Rattle.std.proofs.Math.Path.{fun_ext}
pub use Rattle.std.proofs.lemmas.Bool.{and_parts}
pub use Rattle.std.proofs.lemmas.Bool.Decides.{nat_tests}
pub use Rattle.std.proofs.lemmas.Map.Text.{is_eq-slice_cmp}
pub use Rattle.std.proofs.lemmas.Slice.Eq.{bytes_eq-Decides}
pub use Rattle.std.specs.BTreeSet.{BTreeSet}
pub use Rattle.std.specs.Cmp.Lexicographic.{slice_cmp}
pub use Rattle.std.specs.Ordering.{match_ordering}
pub use Rattle.std.specs.Prelude.{IsUtf8, bytes_eq, if◌then◌else◌, is_some, length, nat_lt, not, option_and_then, option_map, ◌&&◌, ◌++◌, ◌==◌, ◌||◌}
