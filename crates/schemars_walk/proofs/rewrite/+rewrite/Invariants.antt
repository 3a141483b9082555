-- What is left, rewritten after what is done, is the whole rewritten; and nothing that is left is deeper.
use Rattle.std.proofs.Common.{◌≡◌, ◌+◌, ◌*◌, ◌≤◌, length, map, take, drop}
use Rattle.schemars_walk.proofs.Words.{depth, items_depth, members_depth, view, items_view, members_view, place_meant, in_places, in_items}
use Rattle.schemars_walk.proofs.Walks.{then_items}
use Rattle.schemars_walk.proofs.rewrite.+rewrite.Given as goal

abbrev pub decreases-rewrite : goal.decreases-rewrite
decreases-rewrite g l = 8 * depth l.schema.now + 2

abbrev pub decreases-rewrite_subschemas : goal.decreases-rewrite_subschemas
decreases-rewrite_subschemas g l = 8 * depth l.schema.now + 1

abbrev pub decreases-rewrite_keywords : goal.decreases-rewrite_keywords
decreases-rewrite_keywords g l = 8 * members_depth (members_view l.members.now.entries) + 7

abbrev pub decreases-rewrite_values : goal.decreases-rewrite_values
decreases-rewrite_values g l = 8 * items_depth (items_view l.values.now) + 6

abbrev pub decreases-rewrite_place : goal.decreases-rewrite_place
decreases-rewrite_place g l = 8 * depth (view l.value.now) + 5

abbrev pub decreases-rewrite_items : goal.decreases-rewrite_items
decreases-rewrite_items g l = 8 * items_depth (items_view l.items.now) + 7

abbrev pub decreases-rewrite_names : goal.decreases-rewrite_names
decreases-rewrite_names g l = 8 * members_depth (members_view l.members.now.entries) + 8

abbrev pub decreases-rewrite_schema : goal.decreases-rewrite_schema
decreases-rewrite_schema g l = 8 * depth (view l.value.now) + 4

abbrev pub invariant-rewrite_items-loop-item : goal.invariant-rewrite_items-loop-item
invariant-rewrite_items-loop-item g l = record {
  deep : items_depth (items_view (drop l.item-index l.items)) ≤ items_depth (items_view l.fn.items);
  rest : then_items (items_view (take l.item-index l.items)) (in_items g.R.Rule.rules l.rule (items_view (drop l.item-index l.items))) ≡
      in_items g.R.Rule.rules l.rule (items_view l.fn.items);
}

abbrev pub invariant-rewrite_values-loop-index : goal.invariant-rewrite_values-loop-index
invariant-rewrite_values-loop-index g l = record {
  many : length l.values ≡ length l.fn.values;
  deep : items_depth (items_view (drop l.index l.values)) ≤ items_depth (items_view l.fn.values);
  rest : then_items (items_view (take l.index l.values)) (in_places g.R.Rule.rules l.rule (map place_meant (drop l.index l.places))
      (items_view (drop l.index l.values))) ≡ in_places g.R.Rule.rules l.rule (map place_meant l.fn.places) (items_view l.fn.values);
}
