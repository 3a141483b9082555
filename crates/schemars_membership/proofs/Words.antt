-- Words that many proofs of this crate name.
pub use Rattle.schemars_generate.specs.Generator.{state}
pub use Rattle.schemars_documents.specs.PlainTable.{HasPlainNotes}
pub use Rattle.schemars_generate.specs.Through.{IsRefused, IsUntransformed}
pub use Rattle.schemars_headline.specs.Drafts.{Draft2020_12}
pub use Rattle.schemars_headline.specs.Headline.{Headline, IsDraftPath, MeansItsType, RootHeadline}
pub use Rattle.schemars_headline.specs.State.{HasOwnDefinitions, State, path_of}
pub use Rattle.schemars_membership.specs.Membership.{Belongs, IsDocumentRefusal, IsMember, IsOfType, IsRowRefusal, IsTypeDocument, fresh}
pub use Rattle.schemars_readable.specs.Drafts.{dialect_of}
pub use Rattle.schemars_readable.specs.Expressions.{AreExpressionsOf}
pub use Rattle.schemars_schema.specs.Acceptance.{accepts, bound}
pub use Rattle.schemars_schema.specs.Dialects.{draft2020_12}
pub use Rattle.schemars_schema.specs.Json.{IsJson, Text}
pub use Rattle.schemars_schema.specs.Judges.{Patterns}
pub use Rattle.schemars_schema.specs.Verdict.{is_yes, verdict}
pub use Rattle.schemars_types.specs.Faults.{IsAccepted}
pub use Rattle.schemars_types.specs.Meaning.{belongs}
pub use Rattle.schemars_types.specs.Rows.{Row}
pub use Rattle.schemars_validator.specs.Asked.{Accepts, IsOf}
pub use Rattle.serde_json.specs.Data.{Data}
pub use Rattle.serde_json.specs.View.{view}
pub use Rattle.std.proofs.lemmas.Bool.Decides.{nat_tests}
pub use Rattle.std.proofs.lemmas.Result.{err_from_is_err_and}
pub use Rattle.std.specs.Prelude.{codes, nat_lt}
pub use borrow.Author.Tests.{ltb-true}
