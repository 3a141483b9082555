-- Words that many contracts of this crate name.
pub use Rattle.schemars_laws.specs.Classes.{HasNoUnevaluated, HasPlainItems, HasPlainReference, HasPlainType, IsConstAlone, IsDraft07, alone_by, beside_by, by_items, by_prefix_items, plain_nullable, with_const, with_nullable_read, with_unevaluated, without_const, without_nullable_read, without_unevaluated}
pub use Rattle.schemars_laws.specs.Laws.{LeavesReferencesAlone, MovesDocuments, MovesDrafts, MovesToOpenApi, for_draft07, for_draft2019_09, for_openapi3}
pub use Rattle.schemars_laws.specs.Stages.{Anything}
pub use Rattle.schemars_schema.specs.Dialects.{Dialect, draft2020_12}
