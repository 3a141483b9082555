use Rattle.std.proofs.Common.{◌≡◌, drop}
use Rattle.schemars_builders.proofs.Words.{items_view, holds_null_schema}
use Rattle.schemars_builders.proofs.null.holds_null_schema.Given as goal

abbrev pub invariant-loop-schema : goal.invariant-loop-schema
invariant-loop-schema l = holds_null_schema (items_view (drop l.schema-index l.schemas)) ≡ holds_null_schema (items_view l.schemas)
