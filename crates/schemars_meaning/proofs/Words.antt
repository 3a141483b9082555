-- Words that many proofs of this crate name.
pub use Prim.Native.String.{String}
pub use Rattle.schemars_builders.proofs.LiteralNulls.{literal_ready}
pub use Rattle.schemars_builders.proofs.NullKeywords.{texts_in-text_items}
pub use Rattle.schemars_builders.proofs.NullMembers.{choice_key}
pub use Rattle.schemars_builders.proofs.Nulls.{AreReady, IsReady, ready-allow_null, ready-law, ready-schema, some_accepts_null}
pub use Rattle.schemars_builders.specs.AllowNull.{allow_null, const_or_null, enum_with_null, is_combined, is_null_choice, null_in_const, null_in_enum, null_in_type, null_in_values, null_schema, offers_null, or_null, type_with_null}
pub use Rattle.schemars_builders.specs.NullLaw.{AcceptsNullToo, HasPlainValues, HasTypeForm, IsChoice, IsDraft, IsPlain, context2020_12, context_of, text_items, zero_schema}
pub use Rattle.schemars_builders.specs.Properties.{closed_where, has_null_type, internally_tagged_variant, with_property}
pub use Rattle.schemars_builders.specs.Variants.{unit_variant}
pub use Rattle.schemars_cycles.proofs.GraphLemmas.{nothing_among}
pub use Rattle.schemars_documents.proofs.Literals.{literal_document-schema}
pub use Rattle.schemars_documents.proofs.OpenStructs.{bare, part_same, parts_apart}
pub use Rattle.schemars_documents.specs.Basis.{Basis}
pub use Rattle.schemars_documents.specs.Describes.{AreAnswered, Fills, IsAnswered, IsContent, IsOwnDocument, IsWritten, are_optional, references_of, without_options}
unfoldable pub use Rattle.schemars_documents.specs.Describes.{Describes}
pub use Rattle.schemars_documents.specs.Documents.{bytes_document, char_document, count_at, empty_list_document, formatted_document, int_document, int_keywords, is_signed, non_zero_document, required_names, schema_document}
pub use Rattle.schemars_documents.specs.OfShape.{adjacent_item, adjacent_payload, adjacent_template, all_patterns, bare_units, choice_of, content_template, entry_template, enum_template, exactly, external_template, fields_template, internal_item, internal_template, list_template, literal_document, members_asked, named_template, other_items, other_values, pattern_properties_at, payload_item, payload_template, property, set_template, struct_template, template_of, titled, tuple_template, units_template, untagged_template, up_to_template, values_of, values_template, with_flattened}
pub use Rattle.schemars_documents.specs.PlainTable.{AreDistinct, AreDistinctVariants, AreNoted, AreNotedVariants, ArePartsUnder, ArePlainParts, ArePlainVariants, AreTagged, HasBareUnits, HasContent, HasNoEnums, HasPlainNotesThroughout, HaveContents, IsBare, IsContentEntry, IsContentShape, IsEntryUnder, IsNoContent, IsNoName, IsNoVariant, IsNotedPayload, IsNotedShape, IsNotedThroughout, IsOpenStruct, IsPartEntry, IsPartShape, IsPartUnder, IsPlainContent, IsPlainEntry, IsPlainPart, IsPlainPayload, IsPlainShape, IsPlainTable, IsPlainUnder, IsTagged, ShapeHasContents, VariantsHaveNoEnums, may_miss, parts_in, payload_parts, variant_parts}
pub use Rattle.schemars_flatten.proofs.Lookups.{either_option, united_beside, united_here, united_none, united_option}
pub use Rattle.schemars_flatten.proofs.References.{flattened-refers, flattened_part-refers, opened_inside-refers}
pub use Rattle.schemars_flatten.proofs.Schemas.{flattened-schema, flattened_part-schema, opened_inside-schema}
pub use Rattle.schemars_flatten.specs.Flatten.{alone, appended, both_choices, contains_key, flattened, has_subschema, is_choice, is_joined, is_merged, moved, moved_beside, united, united_all, with_choice, with_keyword, with_united}
pub use Rattle.schemars_flatten.specs.Opening.{has_type, must_be_in_place, opened, opened_at, opened_here, opened_inside, opening, same_object_place}
pub use Rattle.schemars_flatten.specs.Parts.{behind_first, choice_or_anything, first_as_objects, first_units, flattened_part, list_changed_at, one_or_anything, optional, unit_object, unit_objects, units_as_objects, units_of, with_empty_object, with_items, with_units}
pub use Rattle.schemars_meaning.specs.Equation.{MeansByShape, choices}
pub use Rattle.schemars_schema.proofs.ByValue.{equal-whole, greatest-whole, least-whole}
pub use Rattle.schemars_schema.proofs.Contents.{found_under, found_under-annotation}
pub use Rattle.schemars_schema.proofs.JsonLiterals.{entry}
pub use Rattle.schemars_schema.proofs.Literals.{judge-put_members, literal_is_schema, literal_judged, literal_refers_nowhere}
pub use Rattle.schemars_schema.proofs.Members.{get_member-replaced, get_member-replaced_other, get_member-without, without-put}
pub use Rattle.schemars_schema.proofs.Objects.{IsKeyword, judge-object, judge-put, keyword-plain, says-agree, schema-judge}
unfoldable pub use Rattle.schemars_schema.proofs.Objects.{says}
pub use Rattle.schemars_schema.proofs.Silent.{const_none, items_none, silent, unevaluated_none}
pub use Rattle.schemars_schema.proofs.SortedMembers.{IsSorted, above-trans, get_member-above, same_members, sorted-put, sorted-put_all, sorted-put_members, sorted-replaced, sorted-without}
pub use Rattle.schemars_schema.proofs.Verdicts.{both-assoc, both-middle, both-swap, both-verdict, both-yes, each_agree}
pub use Rattle.schemars_schema.specs.Acceptance.{accepts, all_named, judge, read_items, read_members}
unfoldable pub use Rattle.schemars_schema.specs.Acceptance.{all_keywords, follow, read_data}
pub use Rattle.schemars_schema.specs.Annotations.{AreNotes, is_annotation}
pub use Rattle.schemars_schema.specs.Applicators.{additional_properties_say, by_patterns, by_position, each_past, each_says, is_covered, matches_some, pattern_properties_say, properties_say, schema_named, unevaluated_properties_say}
pub use Rattle.schemars_schema.specs.Assertions.{code_points, have_all, is_null, required_says, type_names, type_says, whole_number}
pub use Rattle.schemars_schema.specs.Dialects.{Dialect, draft2019_09, draft2020_12}
pub use Rattle.schemars_schema.specs.Edits.{changed_at, has_one_member, is_text, on_list, put_missing, removed, replaced, with_first, with_member, without}
pub use Rattle.schemars_schema.specs.Evaluated.{has_schema, judged_beside, judged_by, judged_by_list, judged_by_some}
pub use Rattle.schemars_schema.specs.Json.{AreJson, AreJsonMembers, IsAbove, IsJson, Text, are_distinct, is_among}
unfoldable pub use Rattle.schemars_schema.specs.Json.{alike}
pub use Rattle.schemars_schema.specs.Judges.{Context, Judge, Part, Patterns, Raw, Reading, each_member, key, matches, position, where_some}
pub use Rattle.schemars_schema.specs.Lookup.{resolved}
pub use Rattle.schemars_schema.specs.Numbers.{number_eq, number_le, whole_of}
pub use Rattle.schemars_schema.specs.References.{NoSchemas, OneSchema, Place, SchemaList, SchemaOrList, SchemasByName, at_place, found_in_items, found_in_keywords, found_in_members, place_under, references}
unfoldable pub use Rattle.schemars_schema.specs.References.{found_in}
pub use Rattle.schemars_schema.specs.SchemaData.{IsSchema, members_in, object_of, put_all, put_members}
pub use Rattle.schemars_schema.specs.Verdict.{No, Open, Verdict, Yes, all_of, both, is_yes, none_of, one_of, opposite, verdict}
pub use Rattle.schemars_shapes.specs.IntKind.{format_of}
pub use Rattle.schemars_shapes.specs.IntegerKeys.{pattern_of}
pub use Rattle.schemars_shapes.specs.Shape.{Entry, Field, Fields, Flattened, Payload, Required, Shape, Tagging, Variant, by_name, by_nothing, by_tag, by_tag_and_content, enum, fields_numbers, flattened_numbers, flattened_rows, in_place, needed, newtype_payload, no_payload, numbers_of, of_variants, payload_flattened, payload_numbers, payload_same, payload_same_by, same_value_numbers, struct_payload, tuple_payload, variant_numbers}
pub use Rattle.schemars_shapes.specs.Units.{is_bare_unit}
pub use Rattle.schemars_templates.specs.Finished.{Keyword, annotated, reference, root_document, title_alone, type_alone, typed, with_meta_schema, with_title}
pub use Rattle.schemars_templates.specs.Nodes.{KeywordTemplate, any_of_template, closed_keyword, count_template, map_template, member_template, object_with, one_of_template, properties_at, required_at, said, templates_of, typed_template, whole_template}
pub use Rattle.schemars_templates.specs.Template.{Ask, Template, Templates, asked, asks_in, asks_of, behind, content, filled, filled_in, finished, first, keyed, left, left_in, list, members, members_of, no_templates, noted, nullable, part, row, tagged, template, with_keywords}
pub use Rattle.schemars_text.proofs.Members.{differ, flipped, get_member-here, get_member-later}
pub use Rattle.schemars_text.specs.OrderedText.{is_listed}
pub use Rattle.schemars_types.proofs.Asked.{entry_low, of_variants-more}
pub use Rattle.schemars_types.specs.Edges.{option_at, rank}
pub use Rattle.schemars_types.specs.Effective.{always, effective, enum_at, expanded_fields, expanded_payload, expanded_shape, expanded_shape_in, expanded_variant, flattened_enums, flattened_fields, flattened_in, part_enums, part_fields, required_only_if, row_fields, shape_enums, shape_fields}
unfoldable pub use Rattle.schemars_types.specs.Effective.{enums_within, fields_within}
pub use Rattle.schemars_types.specs.Faults.{IsChecked}
pub use Rattle.schemars_types.specs.KeyOptions.{KeyOptions, all_options, distinct_options, is_key_allowed, key_options, keys, once, or_any_text}
pub use Rattle.schemars_types.specs.Meaning.{Member, VariantMatch, are_members, belongs, claimed_by, each_of, every_item, every_member, every_part, exactly_one, excludes_key, external_choice, field_member, field_named, greatest_of, has_adjacent, has_beside, has_content, has_each, has_external, has_fields, has_internal, has_keys, has_member, has_members, has_members_with, has_payload, has_shape, has_tagged, has_variant, holds, internal_choice, is_at_least, is_at_most, is_byte, is_byte_text, is_key_of_match, is_required, is_tagged_map, is_zero, least_of, matches_of, member_choice, member_named, must_have, none, shape_choices, tag_member, tagged_fields}
unfoldable pub use Rattle.schemars_types.specs.Meaning.{belongs_within, choices_within}
pub use Rattle.schemars_types.specs.OpenStructs.{no_choices}
pub use Rattle.schemars_types.specs.Rows.{Row, entry_at}
pub use Rattle.schemars_walk.specs.Rewritten.{form_at}
unfoldable pub use Rattle.schemars_walk.specs.Rewritten.{forms, in_items, in_keywords}
pub use Rattle.serde_json.proofs.Views.{get_member-put, get_member-put_other}
pub use Rattle.serde_json.specs.Data.{Data, Items, Members, Num, array, boolean, depth, item, items_depth, member, members_depth, no_items, no_members, null, number, object, put, string, unsigned}
pub use Rattle.serde_json.specs.Events.{items_len}
pub use Rattle.serde_json.specs.Find.{as_array, as_object, as_str, get, get_member, is_float, of_integer}
pub use Rattle.serde_json.specs.View.{items_of}
pub use Rattle.serde_json.specs.Written.{has_float, items_have_float}
pub use Rattle.std.proofs.Math.Bool.{and-false, and-true, and_assoc, and_comm, not-not, or-false, or-true, or_assoc, or_comm}
pub use Rattle.std.proofs.Math.Nat.{mul-le-mul_right}
pub use Rattle.std.proofs.lemmas.Bool.{and_parts}
pub use Rattle.std.proofs.lemmas.Bool.Decides.{nat_tests}
pub use Rattle.std.proofs.lemmas.List.{map-append}
pub use Rattle.std.proofs.lemmas.List.Elements.{All-append, All-cons, All-contains, All-contains_itself, All-head, All-nil, All-tail, Contains-append_cases, Contains-append_left, Contains-append_right}
pub use Rattle.std.proofs.lemmas.Map.Lookups.{exact_bytes}
pub use Rattle.std.proofs.lemmas.Map.Text.{is_eq-slice_cmp}
pub use Rattle.std.proofs.lemmas.Option.{same_Some}
pub use Rattle.std.proofs.lemmas.Slice.Eq.{bytes_eq-Decides}
pub use Rattle.std.specs.Cmp.Lexicographic.{slice_cmp}
pub use Rattle.std.specs.List.{All, AllByRecursion, list_any}
pub use Rattle.std.specs.Option.{option_map_or}
pub use Rattle.std.specs.Ordering.{int_eq, match_ordering}
pub use Rattle.std.specs.Prelude.{Bool, bytes_eq, codes, false, filter, if◌then◌else◌, int_le, is_some, length, nat_le, nat_lt, negsuc, not, option_and_then, option_map, pos, true, ℤ, ◌&&◌, ◌++◌, ◌==◌, ◌||◌}
