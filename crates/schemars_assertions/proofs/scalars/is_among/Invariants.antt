-- The items that are left decide.
use Rattle.std.proofs.Common.{◌≡◌, drop}
use Rattle.schemars_assertions.proofs.Words.{view, items_view, is_among}
use Rattle.schemars_assertions.proofs.scalars.is_among.Given as goal

abbrev pub invariant-loop-item : goal.invariant-loop-item
invariant-loop-item l =
    is_among (items_view (drop l.item-index l.items)) (view l.value) ≡ is_among (items_view l.items) (view l.value)
