-- What is changed and what the rest becomes is what the whole becomes.
use Rattle.std.proofs.Common.{◌≡◌, ◌+◌, ◌*◌, ◌≤◌}
use Rattle.schemars_parts.proofs.Words.{depth, items_depth, members_depth, in_items, in_keywords, in_names, rules_of, assembled_view, items_assembled, members_assembled}
use Rattle.schemars_parts.proofs.Lists.{members_before, items_before}
use Rattle.schemars_parts.proofs.changing.+change.Given as goal

abbrev pub decreases-change_schema : goal.decreases-change_schema
decreases-change_schema l = 6 * depth (assembled_view l.part)

abbrev pub decreases-change_keywords : goal.decreases-change_keywords
decreases-change_keywords l = 6 * members_depth (members_assembled l.members.items) + 5

abbrev pub decreases-change_member : goal.decreases-change_member
decreases-change_member l = 6 * depth (assembled_view l.part) + 3

abbrev pub decreases-change_at : goal.decreases-change_at
decreases-change_at l = 6 * depth (assembled_view l.part) + 2

abbrev pub decreases-change_list : goal.decreases-change_list
decreases-change_list l = 6 * depth (assembled_view l.part) + 1

abbrev pub decreases-change_schema_or_list : goal.decreases-change_schema_or_list
decreases-change_schema_or_list l = 6 * depth (assembled_view l.part) + 1

abbrev pub decreases-change_named : goal.decreases-change_named
decreases-change_named l = 6 * depth (assembled_view l.part) + 1

abbrev pub decreases-change_items : goal.decreases-change_items
decreases-change_items l = 6 * items_depth (items_assembled l.parts.items) + 5

abbrev pub decreases-change_names : goal.decreases-change_names
decreases-change_names l = 6 * members_depth (members_assembled l.members.items) + 5

abbrev pub invariant-change_keywords-loop-name : goal.invariant-change_keywords-loop-name
invariant-change_keywords-loop-name l = record {
  deep : members_depth (members_assembled l.name-iterator.rest.items) ≤ members_depth (members_assembled l.fn.members.items);
  value : members_before l.changed.items (in_keywords rules_of l.transform (members_assembled l.name-iterator.rest.items))
      ≡ in_keywords rules_of l.transform (members_assembled l.fn.members.items);
}

abbrev pub invariant-change_names-loop-name : goal.invariant-change_names-loop-name
invariant-change_names-loop-name l = record {
  deep : members_depth (members_assembled l.name-iterator.rest.items) ≤ members_depth (members_assembled l.fn.members.items);
  value : members_before l.changed.items (in_names rules_of l.transform (members_assembled l.name-iterator.rest.items))
      ≡ in_names rules_of l.transform (members_assembled l.fn.members.items);
}

abbrev pub invariant-change_items-loop-part : goal.invariant-change_items-loop-part
invariant-change_items-loop-part l = record {
  deep : items_depth (items_assembled l.part-iterator.rest.items) ≤ items_depth (items_assembled l.fn.parts.items);
  value : items_before l.changed.items (in_items rules_of l.transform (items_assembled l.part-iterator.rest.items))
      ≡ in_items rules_of l.transform (items_assembled l.fn.parts.items);
}
