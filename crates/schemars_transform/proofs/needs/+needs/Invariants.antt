-- What is needed by what is left, and by what was before it, is what the whole needs.
use Rattle.std.proofs.Common.{◌≡◌, ◌+◌, ◌*◌, ◌≤◌, drop}
use Rattle.schemars_transform.proofs.Words.{depth, items_depth, members_depth, view, items_view, members_view, needed_by_items, needed_by_names, needed_by_keywords}
use Rattle.schemars_transform.proofs.needs.+needs.Given as goal

abbrev pub decreases-add_schema : goal.decreases-add_schema
decreases-add_schema l = 4 * depth (view l.schema.now)

abbrev pub decreases-add_keywords : goal.decreases-add_keywords
decreases-add_keywords l = 4 * members_depth (members_view l.members.now.entries) + 3

abbrev pub decreases-add_keyword : goal.decreases-add_keyword
decreases-add_keyword l = 4 * depth (view l.value.now) + 2

abbrev pub decreases-add_at : goal.decreases-add_at
decreases-add_at l = 4 * depth (view l.value.now) + 1

abbrev pub decreases-add_items : goal.decreases-add_items
decreases-add_items l = 4 * items_depth (items_view l.items.now) + 3

abbrev pub decreases-add_names : goal.decreases-add_names
decreases-add_names l = 4 * members_depth (members_view l.members.now.entries) + 3

abbrev pub invariant-add_keywords-loop-key : goal.invariant-add_keywords-loop-key
invariant-add_keywords-loop-key l = record {
  deep : members_depth (members_view l.key-iterator) ≤ members_depth (members_view l.members.entries);
  rest : needed_by_keywords l.alone (members_view l.key-iterator) l.needs
      ≡ needed_by_keywords l.alone (members_view l.members.entries) l.fn.needs;
}

abbrev pub invariant-add_names-loop-member : goal.invariant-add_names-loop-member
invariant-add_names-loop-member l = record {
  deep : members_depth (members_view l.member-iterator) ≤ members_depth (members_view l.members.entries);
  rest : needed_by_names (members_view l.member-iterator) l.needs ≡ needed_by_names (members_view l.members.entries) l.fn.needs;
}

abbrev pub invariant-add_items-loop-item : goal.invariant-add_items-loop-item
invariant-add_items-loop-item l = record {
  deep : items_depth (items_view (drop l.item-index l.items)) ≤ items_depth (items_view l.items);
  rest : needed_by_items (items_view (drop l.item-index l.items)) l.needs ≡ needed_by_items (items_view l.items) l.fn.needs;
}
