-- Words that many proofs of this crate name.
pub use Rattle.indexmap.specs.IndexSet.{insert_key}
pub use Rattle.schemars_build.proofs.Asked.{content_number, option_edges}
pub use Rattle.schemars_build.proofs.Placing.{Answers, document-wider, document_describes, placed_map, placed_written}
pub use Rattle.schemars_build.proofs.Settled.{settled}
pub use Rattle.schemars_build.proofs.Steps.{Wider, definition-wider, step_wider}
pub use Rattle.schemars_build.specs.Missing.{row_asked}
pub use Rattle.schemars_build.specs.Naming.{IsOneToOne, Naming, name_of}
pub use Rattle.schemars_build.specs.Parts.{AreNeededFor, IsDocumentOf, IsFilledOf, IsSaid, IsSubschema}
pub use Rattle.schemars_build.specs.Placed.{IsDocument, IsFilled, IsPlaced, is_in_place, is_pending, pending_in}
unfoldable pub use Rattle.schemars_build.specs.Placed.{IsFilledWithin}
pub use Rattle.schemars_build.specs.Reached.{AreReached, IsReached, by_definition, by_reference}
pub use Rattle.schemars_build.specs.Registry.{IsDefinition, IsKey, Plan, Refers, Registry, StandsApart, Step, basis_of_plan, reference_to}
pub use Rattle.schemars_builders.specs.AllowNull.{allow_null, const_or_null, enum_with_null, holds_null, is_combined, is_null_choice, null_in_const, null_in_enum, null_in_type, null_in_values, null_schema, or_null, type_with_null}
pub use Rattle.schemars_builders.specs.NullLaw.{AcceptsNullToo, IsDraft, context2020_12, text_items, zero_schema}
pub use Rattle.schemars_builders.specs.Properties.{closed_where, has_null_type, internally_tagged_variant, required_first, tagged, with_property}
pub use Rattle.schemars_builders.specs.Variants.{unit_variant}
pub use Rattle.schemars_cycles.specs.Walks.{Walk, one, then}
pub use Rattle.schemars_definitions.specs.Keys.{HasKeysOnce}
pub use Rattle.schemars_documents.proofs.Literals.{literal_document-schema}
pub use Rattle.schemars_documents.proofs.OpenStructs.{parts_apart, plain_under}
pub use Rattle.schemars_documents.specs.Basis.{Basis}
pub use Rattle.schemars_documents.specs.Describes.{AreAnswered, Fills, IsAnswered, IsContent, IsOwnDocument, IsWritten, are_optional, without_options, without_options_within}
unfoldable pub use Rattle.schemars_documents.specs.Describes.{Describes}
pub use Rattle.schemars_documents.specs.Documents.{byte_document, bytes_document, bytes_type, char_document, empty_list_document, formatted_document, int_document, int_keywords, is_signed, non_zero_document, required_names, schema_document}
pub use Rattle.schemars_documents.specs.OfShape.{all_patterns, content_template, entry_template, fields_template, literal_document, members_asked, other_values, pattern_properties_at, property, struct_template, template_of, tuple_template, values_of, values_template, with_flattened}
pub use Rattle.schemars_documents.specs.PlainTable.{AreNoted, AreNotedVariants, ArePartsUnder, ArePlainParts, EntryFlattensNoEnums, EntryHasNoFloat, FlattensNoEnums, HasNoEnums, HasNoFloat, HasPlainLiteral, HasPlainNotes, HasPlainNotesThroughout, IsEntryUnder, IsNoContent, IsNotedEntry, IsNotedPayload, IsNotedShape, IsNotedThroughout, IsPlainContent, IsPlainEntry, IsPlainShape, IsPlainTable, IsPlainUnder, ShapeFlattensNoEnums, ShapeHasContents, VariantsHaveNoEnums, parts_in, payload_parts, variant_parts}
pub use Rattle.schemars_flatten.proofs.Floats.{flattened-whole, flattened_part-whole, opened_inside-whole}
pub use Rattle.schemars_flatten.proofs.Kept.{AllMembers, IsByKeyword}
pub use Rattle.schemars_flatten.proofs.References.{flattened_part-refers, opened_inside-refers}
pub use Rattle.schemars_flatten.specs.Flatten.{both_choices, contains_key, flattened, has_subschema, is_choice, moved, moved_beside, opened_schema, united, with_choice, with_keyword, with_united}
pub use Rattle.schemars_flatten.specs.Opening.{closes_by, opened, opened_at, opened_here, opened_inside, opening, same_object_place}
pub use Rattle.schemars_flatten.specs.Parts.{choice_or_anything, first_as_objects, flattened_part, list_changed_at, one_or_anything, optional_where, unit_object, units_as_objects, units_of, with_empty_object, with_items, with_units}
pub use Rattle.schemars_headline.specs.Drafts.{AcceptsExampleUnder, Draft, Draft07, Draft2019_09, Draft2020_12, DraftHeadlines, DraftSamples, dialect_of, made_for}
pub use Rattle.schemars_headline.specs.Headline.{AcceptsItsValues, CannotPlace, Edge, HasNoCycle, IsDraftPath, IsHolding, IsInlined, IsKnownPath, IsPlainFor, IsRootOf, IsTitledRoot, MeansItsType, MeansItsTypeIn, RootHeadline, SubschemaHeadline, with_definitions}
pub use Rattle.schemars_headline.specs.Inlined.{InlinesAll, IsInlinedFor, NeedsNoDefinitions}
pub use Rattle.schemars_headline.specs.Needed.{DefinitionsAreReached, NeedsItsDefinitions, key_of, references_outside}
pub use Rattle.schemars_headline.specs.Same.{HaveSameAcceptance, IsSameAnswer, RootsHaveSameAcceptance}
pub use Rattle.schemars_headline.specs.State.{HasOwnDefinitions, ReferencesNameKeys, State, after_root, path_of, registry_of, state_plan, without_hash, without_slash}
pub use Rattle.schemars_headline.specs.Taken.{MeanTheirRows, MeansItsRow, OpenApiHeadline}
pub use Rattle.schemars_laws.proofs.Chain.{all_seven, components-found, found-at_end, len-at_end, missing-at_end, names-at_end, openapi-law, schema-at_end, seven-each}
pub use Rattle.schemars_laws.proofs.Drafts.{draft07-law, draft2019_09-law}
pub use Rattle.schemars_laws.proofs.Editing.{absent-once, alike-put, alike-replaced, asked-moved, const-alike, once-put, stands-alike, type-alike, values-alike, without-put}
pub use Rattle.schemars_laws.proofs.Laws.{none, other, prefix-moves, siblings-moves, unevaluated-moves}
pub use Rattle.schemars_laws.proofs.Looked.{Change, change_rules, list-walked, map-walked, none-walked, once-walked, raw-walked, walked, without-other}
pub use Rattle.schemars_laws.proofs.Moved.{Rewrites, schema-moved}
pub use Rattle.schemars_laws.proofs.Paths.{is-schema}
pub use Rattle.schemars_laws.proofs.Plain.{Alike, alike-without, all-none, const-plain, items-alike, none-alike, none-at, none-plain, reference-alike, reference-walked, without-swap}
pub use Rattle.schemars_laws.proofs.PrefixItems.{prefix_items}
pub use Rattle.schemars_laws.proofs.Preserved.{Preserves, after, asked-get, asked-put, asked-replaced, asked-without, change-preserves, schema-no_list, weaker}
pub use Rattle.schemars_laws.proofs.References.{definitions-name, defs-name}
pub use Rattle.schemars_laws.proofs.Seven.{keep-siblings, keep-unevaluated}
pub use Rattle.schemars_laws.proofs.Siblings.{get-moved, moved_members, ref_siblings, schema-siblings}
pub use Rattle.schemars_laws.proofs.Steps.{text-alone, text-named}
pub use Rattle.schemars_laws.proofs.Unevaluated.{none-kept, schema-unevaluated, unevaluated_properties}
pub use Rattle.schemars_laws.specs.Classes.{AreSchemas, AreTexts, HasNoUnevaluated, HasNone, HasPlainItems, HasPlainReference, IsConstAlone, IsDraft07, IsNoList, IsOnce, IsSchemaList, alone_by, is_null_alone, of_draft06, of_draft2019_09, without_unevaluated}
pub use Rattle.schemars_laws.specs.Everywhere.{Everywhere, asked_of_items, asked_of_keywords, asked_of_members, demanded}
unfoldable pub use Rattle.schemars_laws.specs.Everywhere.{asked}
pub use Rattle.schemars_laws.specs.Laws.{MovesAcceptance, for_draft07, for_draft2019_09, for_openapi3}
pub use Rattle.schemars_laws.specs.Names.{HasNoObjects, HasPlainUnevaluated, IsMap, IsName, IsNameOf, IsNoObject, Named, NamedBy}
pub use Rattle.schemars_laws.specs.Paths.{EachEverywhere, IsDefinitionAt, components, components_of}
pub use Rattle.schemars_laws.specs.Stages.{AfterNullable, AfterSiblings, Anything, AreSomeTypes, HasSomeTypes, IsForOpenApi, IsTextWith, Stands}
pub use Rattle.schemars_meaning.proofs.ByKeyword.{HasNeither, IsOther, Keywords, by_keyword, by_value, each, outer_holds, struct_holds, values_all}
pub use Rattle.schemars_meaning.proofs.ByShape.{any_of_document, array_document, items_from, member_document, one_of_document, seq_document, set_document, tuple_document, tuple_fills, units_document, up_to_document}
pub use Rattle.schemars_meaning.proofs.Enums.{IsNewtypeIn, title_noted}
pub use Rattle.schemars_meaning.proofs.FieldsDescribed.{described_fields, written_or_null}
pub use Rattle.schemars_meaning.proofs.Filling.{ArePartsWritten, Fit, all_filled, parted, without_end}
pub use Rattle.schemars_meaning.proofs.Flattened.{map_fills, struct_fills}
pub use Rattle.schemars_meaning.proofs.Following.{InList, References, Setting, written_says}
pub use Rattle.schemars_meaning.proofs.Items.{AllItems, IsItem, OneIs, PartsAre}
pub use Rattle.schemars_meaning.proofs.MapDocument.{AllNotes, map_document, noted_by}
unfoldable pub use Rattle.schemars_meaning.proofs.MapKeywords.{closed_there}
pub use Rattle.schemars_meaning.proofs.Mapping.{describes-wider, written_map}
pub use Rattle.schemars_meaning.proofs.Meanings.{IsSame}
pub use Rattle.schemars_meaning.proofs.Notes.{judge-root}
pub use Rattle.schemars_meaning.proofs.Opened.{no_parts}
pub use Rattle.schemars_meaning.proofs.Parts.{described_holds, either, first_all, left_all}
pub use Rattle.schemars_meaning.proofs.PartsDescribed.{under_apart}
pub use Rattle.schemars_meaning.proofs.ReadyUnder.{beside_written}
pub use Rattle.schemars_meaning.proofs.ReferencesKept.{references-root}
pub use Rattle.schemars_meaning.proofs.Referring.{IsReferring, described_refers, plain_rows, under_rows, written_refers}
pub use Rattle.schemars_meaning.proofs.Rows.{all_asks, values_ask}
pub use Rattle.schemars_meaning.proofs.Schemas.{described}
pub use Rattle.schemars_meaning.proofs.SettledTables.{IsSettled}
pub use Rattle.schemars_meaning.proofs.ShapeInduction.{AreBeside, AreKeysApart, Documents, IsBeside, Law, beside_halves, of_each, plain_variants, shape_holds}
pub use Rattle.schemars_meaning.proofs.ShapesCounted.{struct_stands, tell_inside}
pub use Rattle.schemars_meaning.proofs.Spread.{AnswersFields, AreWritten, IsFieldsDocument, field_keywords}
pub use Rattle.schemars_meaning.proofs.StructDocuments.{IsStruct, both_empty}
pub use Rattle.schemars_meaning.proofs.StructForm.{Part, Parts, objects, struct_keywords, unevaluated_beside, unevaluated_there}
unfoldable pub use Rattle.schemars_meaning.proofs.StructForm.{all_there, one_there}
pub use Rattle.schemars_meaning.proofs.Uniting.{IsForm}
pub use Rattle.schemars_sample.proofs.Choices.{one_beside-holds, shared_by-holds}
pub use Rattle.schemars_sample.proofs.Unplaced.{root_free}
pub use Rattle.schemars_sample.specs.Accepted.{AcceptsExample}
pub use Rattle.schemars_sample.specs.Example.{Entries, Example, Examples, bytes, character, collected_map, decimal, entry, example, newtype_struct, newtype_variant, no_entries, no_examples, no_value, seq, some_value, struct_variant, text, truth, tuple, tuple_variant, unit_struct, whole}
pub use Rattle.schemars_sample.specs.SampleJson.{json_array, sample_json}
pub use Rattle.schemars_sample.specs.SampleSchema.{choice_among, entry_schemas, item_schemas, map_schema, one_beside, sample_root, sample_schema, shared_by, struct_schema, titled_schema, tuple_schema, value_schemas, with_example, with_name}
pub use Rattle.schemars_schema.proofs.Contents.{found_under, members_have_float-put}
pub use Rattle.schemars_schema.proofs.Encodings.{lookup-ascii, lookup-encoded}
pub use Rattle.schemars_schema.proofs.Literals.{literal_is_schema, not_among, plain_absent, plain_at}
pub use Rattle.schemars_schema.proofs.Objects.{IsKeyword, IsSilent, annotation-not_listed, apart, judge-agree, judge-put}
pub use Rattle.schemars_schema.proofs.Placings.{count-place, lookup-whole, plain-components, resolved-definition, resolved-whole, schema_only-schema}
pub use Rattle.schemars_schema.proofs.SortedMembers.{IsSorted, get_member-above}
pub use Rattle.schemars_schema.specs.Acceptance.{accepts, bound, context, count_of_definitions, follow, judge}
pub use Rattle.schemars_schema.specs.Annotations.{AreNotes, is_annotation, keyword_names}
pub use Rattle.schemars_schema.specs.Assertions.{are_type_names, is_null, texts_in}
pub use Rattle.schemars_schema.specs.Dialects.{Dialect, draft07, draft2019_09, draft2020_12, openapi3}
pub use Rattle.schemars_schema.specs.Edits.{changed_at, has_one_member, holds_text, on_list, put_missing, removed, replaced, with_first, with_item, with_last, with_member, without}
pub use Rattle.schemars_schema.specs.Encoding.{encoded, lookup}
pub use Rattle.schemars_schema.specs.Json.{IsJson, Text, are_distinct}
pub use Rattle.schemars_schema.specs.Judges.{Context, Judge, Patterns, when}
pub use Rattle.schemars_schema.specs.Literal.{ArePlainMembers, IsPlainLiteral, IsPlainObject, is_null_type, is_plain_member, names_types}
pub use Rattle.schemars_schema.specs.Lookup.{schema_only}
unfoldable pub use Rattle.schemars_schema.specs.Lookup.{resolved}
pub use Rattle.schemars_schema.specs.Placing.{placed, placed_at, tokens_of}
pub use Rattle.schemars_schema.specs.References.{NoSchemas, OneSchema, Place, SchemaList, SchemaOrList, SchemasByName, all_resolve, at_place, found_in_items, found_in_keywords, found_in_members, keywords_with_names, place_under, references, resolves, with_list, with_same_object, with_same_objects, with_schema}
unfoldable pub use Rattle.schemars_schema.specs.References.{found_in}
pub use Rattle.schemars_schema.specs.SchemaData.{IsSchema, inserted, is_schema, members_in, object_of, put_all, put_members}
pub use Rattle.schemars_schema.specs.Verdict.{No, Verdict, Yes, verdict}
pub use Rattle.schemars_shapes.specs.Decimals.{fields_have_float, payload_has_float, shape_has_float, variants_have_float}
pub use Rattle.schemars_shapes.specs.IntKind.{format_of}
pub use Rattle.schemars_shapes.specs.Shape.{Entry, Field, Fields, Flattened, Payload, Required, Shape, Tagging, Variant, bare_fields, numbers_of, of_variants, option_of, payload_flattened, payload_same, payload_same_by, same_value_numbers, struct, struct_payload}
pub use Rattle.schemars_templates.specs.Finished.{Keyword, annotated, reference, root_document, title_alone, type_alone, with_meta_schema, with_title}
pub use Rattle.schemars_templates.specs.Nodes.{KeywordTemplate, map_template, object_with, properties_at, templates_of, typed_template}
pub use Rattle.schemars_templates.specs.Template.{Ask, Template, Templates, asks_in, asks_of, content, filled, filled_in, first, keyed, left, members_of, noted, part, row, with_keywords}
pub use Rattle.schemars_text.proofs.Members.{differ, get_member-here, get_member-later, unequal}
pub use Rattle.schemars_text.specs.OrderedText.{is_listed}
pub use Rattle.schemars_transform.specs.Built.{bool_rules, const_as_enum, first_as_example, old_items_moved, prefix_as_items, prefix_moved, reference_moved, referring, remove_ref_siblings, replace_prefix_items, value_as_enum, with_single_example, without_siblings}
pub use Rattle.schemars_transform.specs.BuiltIn.{each_made_by, function_of, made_by, value_made_by}
pub use Rattle.schemars_transform.specs.Formats.{format_rules, format_stays}
pub use Rattle.schemars_transform.specs.Nullable.{all_null, is_null_name, null_alone, null_among, null_taken_out, nullable_by, nulls_in, one_or_list, type_without_null, with_nullable, without_null}
pub use Rattle.schemars_transform.specs.Unevaluated.{closed_by, object_with_names, properties_made, properties_named, property_names, replace_unevaluated_properties, unevaluated_as_additional, with_names, with_properties}
pub use Rattle.schemars_types.proofs.Accepted.{never_first_repeated}
pub use Rattle.schemars_types.proofs.Asked.{entry_low, flattened_number}
pub use Rattle.schemars_types.proofs.Settling.{further_rows, length-take}
pub use Rattle.schemars_types.specs.Edges.{DirectEdge, SameValueEdge, is_inline_at, names_at, numbers_at, option_at}
unfoldable pub use Rattle.schemars_types.specs.Edges.{height, rank}
pub use Rattle.schemars_types.specs.Effective.{effective, enum_at, expanded_shape, expanded_shape_in, flattened_enums, flattened_fields, flattened_in, part_enums, part_fields, required_only_if, shape_fields}
unfoldable pub use Rattle.schemars_types.specs.Effective.{fields_within}
pub use Rattle.schemars_types.specs.Faults.{HasRepeated, IsAccepted, IsChecked, IsUndefined}
pub use Rattle.schemars_types.specs.KeyOptions.{KeyOptions, key_options, keys}
pub use Rattle.schemars_types.specs.Meaning.{Member, VariantMatch, belongs, choices_within, every_member, field_member, greatest_of, is_required, least_of, matches_of, member_named}
unfoldable pub use Rattle.schemars_types.specs.Meaning.{belongs_within}
pub use Rattle.schemars_types.specs.Rows.{Row, entry_at, name_at}
pub use Rattle.schemars_walk.proofs.KeywordLaws.{keywords_get}
pub use Rattle.schemars_walk.specs.Rewritten.{Forms, Rules, all_changed, everywhere, form_at, read_at, rewritten}
unfoldable pub use Rattle.schemars_walk.specs.Rewritten.{forms, in_items, in_keywords, in_names}
pub use Rattle.serde_json.proofs.Views.{get_member-put, get_member-put_other}
pub use Rattle.serde_json.specs.Data.{Data, Items, Members, array, boolean, depth, item, member, no_items, no_members, null, number, object, put, string}
pub use Rattle.serde_json.specs.Events.{items_len, members_len}
pub use Rattle.serde_json.specs.Find.{as_object, as_str, get, get_member, pointer}
unfoldable pub use Rattle.serde_json.specs.Find.{unescape, walk}
pub use Rattle.serde_json.specs.View.{items_of, members_view}
pub use Rattle.serde_json.specs.Written.{has_float, items_have_float, members_have_float}
pub use Rattle.std.proofs.Math.Nat.{mul-le-mul_left}
pub use Rattle.std.proofs.lemmas.Bool.{and_parts, eqb-true, false≢true, or_parts}
pub use Rattle.std.proofs.lemmas.Cmp.{nat_list_cmp_total, tied_itself}
pub use Rattle.std.proofs.lemmas.List.Elements.{All-head, All-nil, All-tail, Contains-append_left, Contains-append_right, recursion_from_All}
pub use Rattle.std.proofs.lemmas.List.Folds.{list_any-append}
pub use Rattle.std.proofs.lemmas.Map.Lookups.{exact_bytes}
pub use Rattle.std.proofs.lemmas.Option.{slice_get_past}
pub use Rattle.std.proofs.lemmas.Slice.Eq.{bytes_eq-Decides}
pub use Rattle.std.specs.Cmp.Lexicographic.{slice_cmp}
pub use Rattle.std.specs.List.{All, AllByRecursion, list_all, list_any}
unfoldable pub use Rattle.std.specs.List.{IsDistinct}
pub use Rattle.std.specs.Option.{option_map_or}
pub use Rattle.std.specs.Ordering.{match_ordering}
pub use Rattle.std.specs.Prelude.{bytes_eq, codes, if◌then◌else◌, is_some, nat_eq, nat_le, not, option_and_then, option_map, ◌&&◌, ◌++◌, ◌==◌, ◌||◌, ◌⊎◌}
pub use Rattle.std.specs.Str.{IsUtf8}
