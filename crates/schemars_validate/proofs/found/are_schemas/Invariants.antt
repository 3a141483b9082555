-- The items that are left decide.
use Rattle.std.proofs.Common.{◌≡◌, drop}
use Rattle.schemars_validate.proofs.Words.{items_view, are_schemas}
use Rattle.schemars_validate.proofs.found.are_schemas.Given as goal

abbrev pub invariant-loop-value : goal.invariant-loop-value
invariant-loop-value l =
    are_schemas (items_view (drop l.value-index l.values)) ≡ are_schemas (items_view l.values)
