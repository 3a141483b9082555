-- Words that many proofs of this crate name.
pub use Rattle.schemars_build.proofs.Placing.{Always, filled-wider}
pub use Rattle.schemars_build.specs.Missing.{row_asked}
pub use Rattle.schemars_build.specs.Naming.{IsOneToOne}
pub use Rattle.schemars_build.specs.Parts.{AreNeededFor, IsAnswer, IsDocumentOf, IsFilledOf, IsOwn, IsSaid, IsSubschema}
pub use Rattle.schemars_build.specs.Registry.{Plan, Refers, Registry, Step, basis_of_plan, idle_registry, rolled_back}
pub use Rattle.schemars_definitions.proofs.JoinedTexts.{at_each_key}
pub use Rattle.schemars_definitions.proofs.Keys.{map_once}
pub use Rattle.schemars_definitions.proofs.Members.{replaced-put}
pub use Rattle.schemars_definitions.specs.Joined.{HasNoDefinitions, HasPlaceAt, definition_keys}
pub use Rattle.schemars_definitions.specs.Keys.{HasKeysOnce}
pub use Rattle.schemars_definitions.specs.Whole.{each_made, with_defs_at, with_names}
pub use Rattle.schemars_documents.specs.Describes.{without_options}
pub use Rattle.schemars_documents.specs.PlainTable.{HasPlainNotes}
pub use Rattle.schemars_generate.specs.Answers.{IsAnswerFor, IsSubschemaFor, KeepsDefinitions}
pub use Rattle.schemars_generate.specs.ByType.{IsJoined, IsRegistered, IsRootInTable, IsRootOfType, IsRootOfTypeRefusal, IsSubschemaOfType, IsTypeRefusal, with_rows}
unfoldable pub use Rattle.schemars_generate.specs.ByType.{MeansType, MeansTypeIn}
pub use Rattle.schemars_generate.specs.DefinitionsText.{HasMadePart, IsDefinitionsRefusal, IsDefinitionsText}
pub use Rattle.schemars_generate.specs.Generator.{Generator, Transforms, held_transforms, settings_of, state, state_of, transforms_of}
pub use Rattle.schemars_generate.specs.Refusals.{IsTableRefusal, copy_error, error_of, told}
pub use Rattle.schemars_generate.specs.RootText.{IsRootText, IsTextOf, WritesEarlyFor, draft_of, key_for}
pub use Rattle.schemars_generate.specs.Samples.{CannotPlaceSample, IsSampleRefusal, IsSampleRefused, IsSampleRefusedThrough, IsSampleRoot}
pub use Rattle.schemars_generate.specs.Settings.{transforms_for, transforms_openapi3}
pub use Rattle.schemars_generate.specs.Through.{AreThrough, AreTransformed, AreTurnedDown, IsRefused, IsRefusedThrough, IsRootRefusal, IsTakeRefusal, IsThrough, IsTransformed, IsTurnedDown, IsUntransformed, IsUntransformedCall}
pub use Rattle.schemars_headline.proofs.Calls.{accepted_nothing, after_root_own, always_placed, cannot_place, checked_nothing, err_told, one_to_one-none, own_are_whole, part_kept, part_own, reached_kept, reference_of_part, root_is_whole, root_of, some_definitions, step_kept}
pub use Rattle.schemars_headline.proofs.DialectRoots.{draft_headlines}
pub use Rattle.schemars_headline.proofs.Floats.{IsWhole, whole_allow_null, whole_items, whole_members_in, whole_with_definitions, whole_with_meta_schema}
pub use Rattle.schemars_headline.proofs.Inlined.{part_inlined}
pub use Rattle.schemars_headline.proofs.InlinedDrafts.{answer_needs_none, root_inlined_for, root_needs_none}
pub use Rattle.schemars_headline.proofs.Larger.{more_types_own}
pub use Rattle.schemars_headline.proofs.NamedKeys.{noted_name_keys}
pub use Rattle.schemars_headline.proofs.Needed.{root_needed}
pub use Rattle.schemars_headline.proofs.Paths.{hash_gone, no_hash, no_slash, slash_gone}
pub use Rattle.schemars_headline.proofs.Placed.{IsPlaced, placed_in, placing}
pub use Rattle.schemars_headline.proofs.Roots.{subschema_headline, subschema_or_null}
pub use Rattle.schemars_headline.proofs.Samples.{definitions_free, draft_samples, stands-silent}
pub use Rattle.schemars_headline.proofs.Taken.{openapi_headline}
pub use Rattle.schemars_headline.proofs.WholeTransforms.{whole_by, whole_each_by}
pub use Rattle.schemars_headline.specs.Calls.{IsPartOf, IsReferenceOf, IsRootCall}
pub use Rattle.schemars_headline.specs.Drafts.{Draft, Draft07, Draft2019_09, Draft2020_12, DraftHeadlines, SampleHeadline, dialect_of, made_for}
pub use Rattle.schemars_headline.specs.Headline.{CannotPlace, Headline, IsDraftPath, IsInlined, IsRootOf, IsTitledRoot, RootHeadline, with_definitions}
pub use Rattle.schemars_headline.specs.Inlined.{NeedsNoDefinitions}
pub use Rattle.schemars_headline.specs.State.{HasOwnDefinitions, Settings, State, after_root, path_of, registry_of, state_plan, stripped, without_slash}
pub use Rattle.schemars_headline.specs.Taken.{HasSameKeys, OpenApiHeadline, TakenHeadline}
pub use Rattle.schemars_impls.specs.Describes.{entry_under}
pub use Rattle.schemars_impls.specs.Dictionary.{IsAdded, IsIn, KeepsTo, RefusesType, TypeRow}
pub use Rattle.schemars_impls.specs.Keeps.{AllContinue, Continues, Keeps}
pub use Rattle.schemars_laws.specs.Laws.{for_openapi3}
pub use Rattle.schemars_laws.specs.Paths.{each_changed}
pub use Rattle.schemars_meaning.proofs.Mapping.{answered_map}
pub use Rattle.schemars_sample.proofs.Accepting.{accepts-put}
pub use Rattle.schemars_sample.proofs.Choices.{one_beside-holds, shared_by-holds}
pub use Rattle.schemars_sample.specs.Accepted.{AcceptsExample}
pub use Rattle.schemars_sample.specs.Example.{Entries, Example, Examples, bytes, character, collected_map, decimal, entry, example, example_of, newtype_struct, newtype_variant, no_entries, no_examples, no_value, seq, some_value, struct, struct_variant, text, truth, tuple, tuple_variant, unit_struct, unit_variant, whole}
pub use Rattle.schemars_sample.specs.SampleJson.{HasWholeJson, sample_json}
pub use Rattle.schemars_sample.specs.SampleSchema.{choice_among, entry_schemas, item_schemas, one_beside, sample_root, sample_schema, shared_by, titled_schema, value_schemas, with_example, with_name}
pub use Rattle.schemars_schema.proofs.Contents.{members_have_float-put}
pub use Rattle.schemars_schema.proofs.Placings.{placed_at-definitions, placed_at-defs}
pub use Rattle.schemars_schema.specs.Edits.{replaced}
pub use Rattle.schemars_schema.specs.Json.{Text}
pub use Rattle.schemars_schema.specs.References.{references}
pub use Rattle.schemars_schema.specs.SchemaData.{inserted, members_in}
pub use Rattle.schemars_shapes.specs.Shape.{Entry}
pub use Rattle.schemars_templates.specs.Finished.{root_document}
pub use Rattle.schemars_templates.specs.Template.{Ask, content, members_of, part}
pub use Rattle.schemars_templates.specs.View.{ask_of}
pub use Rattle.schemars_text.proofs.Members.{differ}
pub use Rattle.schemars_text.specs.OrderedText.{is_listed}
pub use Rattle.schemars_transform.proofs.Laws.{built_ins_make, each_wants_memory}
pub use Rattle.schemars_transform.proofs.Parted.{made_in_parts, parted}
pub use Rattle.schemars_transform.proofs.Taken.{makes_in_order}
pub use Rattle.schemars_transform.proofs.Turns.{IsApart, definitions_apart, defs_apart}
pub use Rattle.schemars_transform.specs.Apart.{are_local}
pub use Rattle.schemars_transform.specs.BuiltIn.{IsMadeBy, each_made_by, made_by, value_made_by}
pub use Rattle.schemars_transform.specs.Member.{ApplyInOrder, some_own}
pub use Rattle.schemars_types.proofs.Registered.{place_of-below}
pub use Rattle.schemars_types.specs.Edges.{RefersWithin}
pub use Rattle.schemars_types.specs.Faults.{IsAccepted, IsChecked, Refusal}
pub use Rattle.schemars_types.specs.Rows.{HasDistinctIds, Row, entry_at, name_at}
unfoldable pub use Rattle.schemars_walk.specs.Rewritten.{forms}
pub use Rattle.schemars_walk.specs.Walk.{AtSchema, EachMember, TransformStep}
pub use Rattle.serde_json.proofs.Views.{get_member-put, get_member-put_other, members_len-members_view, view-Object}
pub use Rattle.serde_json.specs.Data.{Data, Members, array, boolean, item, member, no_items, no_members, null, number, object, put, string}
pub use Rattle.serde_json.specs.Events.{members_len}
pub use Rattle.serde_json.specs.Find.{get, get_member}
pub use Rattle.serde_json.specs.View.{members_view, view}
pub use Rattle.serde_json.specs.Written.{has_float, members_have_float}
pub use Rattle.std.proofs.Math.Seq.{take-length}
pub use Rattle.std.proofs.lemmas.Result.{IfErr-weaker, IfOk-weaker, err_from_is_err_and}
pub use Rattle.std.proofs.lemmas.Str.Pattern.{strip_prefix_char, strip_suffix_char}
pub use Rattle.std.specs.Cmp.Lexicographic.{slice_cmp}
pub use Rattle.std.specs.List.{AllByRecursion}
unfoldable pub use Rattle.std.specs.List.{IsDistinct}
pub use Rattle.std.specs.Option.{IfSome}
pub use Rattle.std.specs.Ordering.{match_ordering}
pub use Rattle.std.specs.Prelude.{IfErr, IfOk, IsErrAnd, codes, if◌then◌else◌, is_some}
pub use Rattle.std.specs.Result.{result_from_control_flow}
