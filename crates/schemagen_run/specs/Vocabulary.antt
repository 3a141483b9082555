-- Words that many contracts of this crate name.
pub use Rattle.schemagen_run.specs.Fault.{IsFault, IsOutside, IsReadFault, IsSampleFault, IsTableFault, IsTypesFault, IsValueFault}
pub use Rattle.schemagen_run.specs.Output.{IsFreshFor, IsOutputLine, IsOutputOf, output_has_float, output_text}
pub use Rattle.schemagen_run.specs.Promises.{RefusesDocument, RefusesInput, RefusesOnlyOutside, RefusesWords, WritesLineFor}
pub use Rattle.schemagen_run.specs.Run.{AreTaken, GivesAll, HasFault, IsAccepted, IsAcceptedText, IsAsRead, IsBadTable, IsExampleLine, IsFaultyTable, IsLineFor, IsLineOf, IsLineRefusal, IsNoJson, IsNotWhole, IsNotedText, IsRefusal, IsSampleDocument, IsSampleLine, IsSampleLineOf, IsSampleText, IsTableLine, IsTableText, IsTextOf, IsUnplacedText, example_of, fresh, is_table, sample_input, sample_json, settings_for, settings_of, settings_of_dialect, state, transforms_of, transforms_of_dialect}
pub use Rattle.schemagen_run.specs.Writing.{WritesLine}
pub use Rattle.schemars_text.specs.Sent.{IsSent, IsSentInPart}
pub use Rattle.schemars_transform.specs.Member.{some_own}
pub use Rattle.serde_json.specs.View.{members_view, view}
pub use Rattle.std.specs.Io.KnownBytes.{Consumes, IsAtEnd}
