-- Words that many proofs of this crate name.
pub use Rattle.schemagen_input.specs.Input.{input_of}
pub use Rattle.schemagen_input.specs.Texts.{IsTableText}
pub use Rattle.schemalint_run.specs.Lint.{AreLines, IsVerdictOf, Judges, is_under, verdict_for}
pub use Rattle.schemars_documents.proofs.OpenStructs.{plain_under}
pub use Rattle.schemars_documents.specs.PlainTable.{IsPlainTable, IsPlainUnder}
pub use Rattle.schemars_types.specs.Faults.{IsAccepted}
pub use Rattle.schemars_types.specs.Rows.{Row}
pub use Rattle.std.proofs.lemmas.Bool.{and_parts}
pub use Rattle.std.proofs.lemmas.Bool.Decides.{Decides-eqb}
pub use Rattle.std.proofs.lemmas.List.{take-append-drop}
pub use Rattle.std.specs.Cmp.Lexicographic.{pointwise}
pub use Rattle.std.specs.List.{ends_with}
pub use Rattle.std.specs.Prelude.{◌==◌, ◌↔◌}
