-- Words that many contracts of this crate name.
pub use Rattle.schemars_headline.specs.Headline.{Headline, IsPlainFor, MeansItsType}
pub use Rattle.schemars_membership.specs.Membership.{Belongs, IsDocumentRefusal, IsMember, IsOfType, IsTypeDocument, IsUndecided}
pub use Rattle.schemars_schema.specs.Acceptance.{accepts, bound}
pub use Rattle.schemars_schema.specs.Dialects.{draft2020_12}
pub use Rattle.schemars_schema.specs.Verdict.{is_yes}
pub use Rattle.schemars_types.specs.Rows.{Row}
pub use Rattle.serde_json.specs.View.{view}
