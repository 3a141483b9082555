-- Words that many contracts of this crate name.
pub use Rattle.schemagen_run.specs.CommandLine.{AreCommands, AskForSample, AskForTypes}
pub use Rattle.schemagen_run.specs.Fault.{IsFault, IsOutside, IsTableFault}
pub use Rattle.schemagen_run.specs.Run.{IsAcceptedText, IsBadTable, IsFaultyTable, IsLineFor, IsNoJson, IsNotWhole, IsNotedText, IsSampleText, IsUnplacedFor}
pub use Rattle.schemalint_run.specs.Lint.{IsPlainText, IsTextPlainUnder, is_under}
pub use Rattle.schemars_c.specs.Exports.{Fills, HandsOut, IsHandedOut, IsProgramLine, IsReport, IsSampleRefusal, IsTypesRefusal, LacksRoom, LeavesAll, TellsOfExample, TellsOfTable, WantsMemory, example_words, fault_number, table_words, verdict_number}
