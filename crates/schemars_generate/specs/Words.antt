-- Words that many contracts of this crate name.
pub use Rattle.schemars_build.specs.Missing.{row_asked}
pub use Rattle.schemars_build.specs.Naming.{IsOneToOne}
pub use Rattle.schemars_build.specs.Plans.{plan_of}
pub use Rattle.schemars_build.specs.Registry.{Step, rolled_back}
pub use Rattle.schemars_definitions.specs.Joined.{HasNoDefinitions}
pub use Rattle.schemars_definitions.specs.Keys.{HasKeysOnce}
pub use Rattle.schemars_definitions.specs.Whole.{with_defs_at}
pub use Rattle.schemars_generate.specs.Answers.{IsAnswerFor, IsSubschemaFor, KeepsDefinitions}
pub use Rattle.schemars_generate.specs.ByType.{IsJoined, IsRootInTable, IsRootOfType, IsRootOfTypeRefusal, IsSubschemaOfType, IsTypeRefusal, MeansType, MeansTypeIn, with_rows}
pub use Rattle.schemars_generate.specs.DefinitionsText.{IsDefinitionsRefusal, IsDefinitionsText, TakesEarly}
pub use Rattle.schemars_generate.specs.Generator.{IsReady, generator_over, held_transforms, settings_of, state, state_of, transforms_of}
pub use Rattle.schemars_generate.specs.Lends.{LendsDefinitions, LendsTransforms}
pub use Rattle.schemars_generate.specs.Refusals.{IsTableRefusal}
pub use Rattle.schemars_generate.specs.RootText.{IsRootText, IsTextOf, WritesEarly, WritesEarlyFor, draft_of, key_for}
pub use Rattle.schemars_generate.specs.Samples.{IsSampleRefusal, IsSampleRefused, IsSampleRoot}
pub use Rattle.schemars_generate.specs.Settings.{AreSettingsCopied, IsCopyOf, settings07, settings2019_09, settings_openapi3, transforms07, transforms2019_09, transforms_for, transforms_openapi3}
pub use Rattle.schemars_generate.specs.Through.{AreGone, AreTransformed, IsRefusedThrough, IsRootRefusal, IsTakeRefusal, IsThrough, IsTransformed, IsUntransformed, IsUntransformedCall}
pub use Rattle.schemars_headline.specs.Drafts.{Draft, SampleHeadline, dialect_of, made_for}
pub use Rattle.schemars_headline.specs.Headline.{CannotPlace, IsDraftPath, IsRootOf, IsTitledRoot, RootHeadline, with_definitions}
pub use Rattle.schemars_headline.specs.Same.{RootsHaveSameAcceptance}
pub use Rattle.schemars_headline.specs.State.{HasOwnDefinitions, Settings, State, path_of, registry_of, settings2020_12, state_plan, stripped}
pub use Rattle.schemars_meaning.specs.Equation.{MeansByShape}
pub use Rattle.schemars_sample.specs.Example.{example_of}
pub use Rattle.schemars_schema.specs.Dialects.{Dialect}
pub use Rattle.schemars_templates.specs.Template.{content, members_of}
pub use Rattle.schemars_templates.specs.View.{ask_of}
pub use Rattle.schemars_transform.specs.BuiltIn.{made_by}
pub use Rattle.schemars_transform.specs.Member.{ApplyInOrder, some_own}
pub use Rattle.schemars_transform.specs.Needs.{needs_of}
pub use Rattle.schemars_types.specs.Extends.{begins_with}
pub use Rattle.schemars_types.specs.Faults.{IsAccepted, IsChecked}
pub use Rattle.schemars_types.specs.Rows.{HasDistinctIds, Row}
pub use Rattle.serde_json.specs.Data.{Data, no_members}
pub use Rattle.serde_json.specs.View.{members_view}
pub use Rattle.std.specs.Borrow.{sem}
