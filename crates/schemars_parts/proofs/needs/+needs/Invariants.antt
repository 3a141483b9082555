-- What is needed by what is left, and by what was before it, is what the whole needs.
use Rattle.std.proofs.Common.{◌≡◌, ◌+◌, ◌*◌, ◌≤◌, drop}
use Rattle.schemars_parts.proofs.Words.{depth, items_depth, members_depth, needed_by_items, needed_by_names, needed_by_keywords, assembled_view, items_assembled, members_assembled}
use Rattle.schemars_parts.proofs.needs.+needs.Given as goal

abbrev pub decreases-add_schema : goal.decreases-add_schema
decreases-add_schema l = 6 * depth (assembled_view l.part.now)

abbrev pub decreases-add_keywords : goal.decreases-add_keywords
decreases-add_keywords l = 6 * members_depth (members_assembled l.members.now.items) + 5

abbrev pub decreases-add_keyword : goal.decreases-add_keyword
decreases-add_keyword l = 6 * depth (assembled_view l.part.now) + 3

abbrev pub decreases-add_at : goal.decreases-add_at
decreases-add_at l = 6 * depth (assembled_view l.part.now) + 2

abbrev pub decreases-add_list : goal.decreases-add_list
decreases-add_list l = 6 * depth (assembled_view l.part.now) + 1

abbrev pub decreases-add_schema_or_list : goal.decreases-add_schema_or_list
decreases-add_schema_or_list l = 6 * depth (assembled_view l.part.now) + 1

abbrev pub decreases-add_named : goal.decreases-add_named
decreases-add_named l = 6 * depth (assembled_view l.part.now) + 1

abbrev pub decreases-add_items : goal.decreases-add_items
decreases-add_items l = 6 * items_depth (items_assembled l.parts.now.items) + 5

abbrev pub decreases-add_names : goal.decreases-add_names
decreases-add_names l = 6 * members_depth (members_assembled l.members.now.items) + 5

abbrev pub invariant-add_keywords-loop-key : goal.invariant-add_keywords-loop-key
invariant-add_keywords-loop-key l = record {
  deep : members_depth (members_assembled (drop l.key-index l.key-items)) ≤ members_depth (members_assembled l.members.items);
  rest : needed_by_keywords l.alone (members_assembled (drop l.key-index l.key-items)) l.needs
      ≡ needed_by_keywords l.alone (members_assembled l.members.items) l.fn.needs;
}

abbrev pub invariant-add_names-loop-part : goal.invariant-add_names-loop-part
invariant-add_names-loop-part l = record {
  deep : members_depth (members_assembled (drop l.part-index l.part-items)) ≤ members_depth (members_assembled l.members.items);
  rest : needed_by_names (members_assembled (drop l.part-index l.part-items)) l.needs ≡ needed_by_names (members_assembled l.members.items) l.fn.needs;
}

abbrev pub invariant-add_items-loop-part : goal.invariant-add_items-loop-part
invariant-add_items-loop-part l = record {
  deep : items_depth (items_assembled (drop l.part-index l.parts.items)) ≤ items_depth (items_assembled l.parts.items);
  rest : needed_by_items (items_assembled (drop l.part-index l.parts.items)) l.needs ≡ needed_by_items (items_assembled l.parts.items) l.fn.needs;
}
