-- Words that many proofs of this crate name.
pub use Rattle.schemagen_input.proofs.AsRead.{is_as_read}
pub use Rattle.schemagen_input.specs.Input.{input_of, is_complete, is_table}
pub use Rattle.schemagen_input.specs.SampleInput.{IsAsRead}
pub use Rattle.schemagen_run.specs.CommandLine.{AreFlagsFor, AskFor, AskForExample, AskForSample, AskForTypes, Asks, IsAskedBy, IsDialect, IsKnown, word_for}
pub use Rattle.schemagen_run.specs.Fault.{IsLineFault, IsOutside, IsReadFault, IsTableFault, IsTypesFault, IsValueFault, fault_of_writing}
pub use Rattle.schemagen_run.specs.Output.{IsFreshFor, IsOutputOf}
pub use Rattle.schemagen_run.specs.Promises.{WritesLineFor}
pub use Rattle.schemagen_run.specs.Run.{AcceptsIn, AcceptsUnder, AreDefinitionsOf, AreTaken, AreTakenAt, GivesAll, IsAcceptedText, IsBadTable, IsDocumentLine, IsFaultyTable, IsLineIn, IsLineOf, IsLineRefusal, IsNoJson, IsNotedText, IsRefusal, IsSampleDocument, IsSampleLine, IsSampleLineOf, IsTableLine, IsTableText, IsUnplaced, IsUntransformedExample, IsWrittenDocument, Means, Tells, fresh, settings_for, settings_of_dialect, transforms_of_dialect}
pub use Rattle.schemagen_run.specs.Writing.{WritesLine}
pub use Rattle.schemars_documents.specs.PlainTable.{HasNoFloat, HasPlainNotes}
pub use Rattle.schemars_generate.proofs.Words.{TransformStep}
pub use Rattle.schemars_generate.specs.DefinitionsText.{IsDefinitionsRefusal}
pub use Rattle.schemars_generate.specs.Generator.{Generator, Transforms, generator_over, held_transforms, settings_of, state, transforms_of}
pub use Rattle.schemars_generate.specs.Refusals.{HasFault, code_of, error_of}
pub use Rattle.schemars_generate.specs.RootText.{IsTextOf}
pub use Rattle.schemars_generate.specs.Samples.{IsSampleRefused, IsSampleRoot}
pub use Rattle.schemars_generate.specs.Settings.{transforms_openapi3}
pub use Rattle.schemars_generate.specs.Through.{IsRefused, IsUntransformed}
pub use Rattle.schemars_headline.specs.Drafts.{AcceptsExampleUnder, Draft, dialect_of}
pub use Rattle.schemars_headline.specs.Headline.{CannotPlace, Headline, IsDraftPath, IsPlainFor}
pub use Rattle.schemars_headline.specs.State.{HasOwnDefinitions, Settings, State, path_of, stripped}
pub use Rattle.schemars_laws.specs.Paths.{components}
pub use Rattle.schemars_sample.specs.Example.{Example, example_of}
pub use Rattle.schemars_schema.specs.Dialects.{draft07, draft2019_09, draft2020_12, openapi3}
pub use Rattle.schemars_schema.specs.Json.{Text}
pub use Rattle.schemars_text.proofs.Begun.{begun_after, begun_longer}
pub use Rattle.schemars_text.specs.OrderedText.{definitions_text}
pub use Rattle.schemars_text.specs.Sent.{IsSent, IsSentInPart}
pub use Rattle.schemars_text.specs.Sink.{AppendsBeginning}
pub use Rattle.schemars_transform.specs.BuiltIn.{IsMadeBy, made_by}
pub use Rattle.schemars_transform.specs.Member.{some_own}
pub use Rattle.schemars_types.specs.Faults.{IsAccepted, Refusal}
pub use Rattle.schemars_types.specs.Rows.{Row}
pub use Rattle.serde_json.specs.Data.{Data, Members, no_members}
pub use Rattle.serde_json.specs.View.{view}
pub use Rattle.serde_json.specs.Written.{has_float, members_have_float}
pub use Rattle.std.proofs.KnownBytes.{Appends-trans}
pub use Rattle.std.proofs.lemmas.Result.{IfErr-at_err, IfErr-weaker, IfOk-weaker, on_ok_weaker}
pub use Rattle.std.proofs.lemmas.Slice.Eq.{bytes_eq-Decides}
pub use Rattle.std.specs.Io.KnownBytes.{Appends}
pub use Rattle.std.specs.Prelude.{IsTrue, MatchOption}
pub use Rattle.std.specs.Str.{bytes_eq}
pub use borrow.Author.Tests.{ltb-true}
