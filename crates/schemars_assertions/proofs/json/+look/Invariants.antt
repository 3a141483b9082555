-- Where what is left is JSON, so is the whole.
use Rattle.std.proofs.Common.{drop}
use Rattle.schemars_assertions.proofs.Words.{values_of, items_view, AreJson}
use Rattle.schemars_assertions.proofs.json.+look.Given as goal

abbrev pub invariant-look_at_items-loop-item : goal.invariant-look_at_items-loop-item
invariant-look_at_items-loop-item l = AreJson (items_view (drop l.item-index l.items.items)) → AreJson (items_view l.items.items)

abbrev pub invariant-look_at_members-loop-value : goal.invariant-look_at_members-loop-value
invariant-look_at_members-loop-value l = AreJson (items_view l.value-iterator) → AreJson (items_view (values_of l.members.entries))
