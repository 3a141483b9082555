-- Words that many proofs of this crate name.
pub use Rattle.schemagen_run.proofs.Asking.{ask_for_sample, ask_for_types, names_2019_09, names_2020_12, names_draft_07, names_openapi3}
pub use Rattle.schemagen_run.proofs.Runs.{gave}
pub use Rattle.schemagen_run.specs.CommandLine.{AreFlagsFor, AskForSample, AskForTypes, IsDialect}
pub use Rattle.schemagen_run.specs.Fault.{IsFault, IsLineFault, IsOutside, IsReadFault, IsTableFault}
pub use Rattle.schemagen_run.specs.Run.{IsFaultyTable, IsLineFor}
pub use Rattle.schemars_c.specs.Exports.{WantsMemory, dialect_word, example_words, fault_number, flag_words, table_words}
pub use Rattle.schemars_schema.specs.Json.{Text}
