use Rattle.std.proofs.Common.{◌≡◌, drop}
use Rattle.schemars_flatten.proofs.Words.{items_view, holds_empty_object}
use Rattle.schemars_flatten.proofs.part.optional.holds_empty_object.Given as goal

abbrev pub invariant-loop-schema : goal.invariant-loop-schema
invariant-loop-schema l = holds_empty_object (items_view (drop l.schema-index l.schemas))
    ≡ holds_empty_object (items_view l.schemas)
