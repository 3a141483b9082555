-- The items that are left decide.
use Rattle.std.proofs.Common.{◌≡◌, drop}
use Rattle.schemars_readable.specs.Words.{items_view, are_schemas}
use Rattle.schemars_readable.proofs.forms.are_schemas.Given as goal

abbrev pub invariant-loop-value : goal.invariant-loop-value
invariant-loop-value l =
    are_schemas l.draft (items_view (drop l.value-index l.values)) ≡ are_schemas l.draft (items_view l.values)
