-- Words that many contracts of this crate name.
pub use Rattle.schemagen_input.specs.Texts.{IsAcceptedText}
pub use Rattle.schemalint_run.specs.Lint.{AreLines, IsPlainText, IsTextPlainUnder, IsVerdictOf, Judges, is_under, verdict_for, verdict_line, verdict_words}
pub use Rattle.schemars_schema.specs.Json.{Text}
pub use Rattle.schemars_types.specs.Faults.{IsAccepted}
