-- The items that are left decide.
use Rattle.std.proofs.Common.{◌≡◌, drop}
use Rattle.schemars_literals.proofs.Words.{items_view, every_item, is_byte}
use Rattle.schemars_literals.proofs.scalars.are_bytes.Given as goal

abbrev pub invariant-loop-item : goal.invariant-loop-item
invariant-loop-item l = every_item is_byte (items_view (drop l.item-index l.items)) ≡ every_item is_byte (items_view l.items)
