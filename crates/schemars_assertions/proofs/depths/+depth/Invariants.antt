-- The deepest so far, and what is left.
use Rattle.std.proofs.Common.{◌≡◌, drop, max}
use Rattle.serde_json.specs.Data.{items_depth, members_depth}
use Rattle.schemars_assertions.proofs.Words.{items_view, members_view}
use Rattle.schemars_assertions.proofs.depths.+depth.Given as goal

abbrev pub invariant-items_depth-loop-item : goal.invariant-items_depth-loop-item
invariant-items_depth-loop-item l =
    max l.deepest (items_depth (items_view (drop l.item-index l.items.items))) ≡ items_depth (items_view l.items.items)

abbrev pub invariant-members_depth-loop-value : goal.invariant-members_depth-loop-value
invariant-members_depth-loop-value l =
    max l.deepest (members_depth (members_view l.value-iterator)) ≡ members_depth (members_view l.members.entries)
