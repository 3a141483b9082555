-- The names in what is left, with those put in so far, are the names in the whole.
use Rattle.std.proofs.Common.{◌≡◌, ◌+◌, ◌*◌, ◌≤◌, drop}
use Rattle.schemars_transform.proofs.Words.{depth, items_depth, members_depth, view, items_view, members_view, names_in_items, names_in_keywords, with_names}
use Rattle.schemars_transform.proofs.built_in.unevaluated.+names.Given as goal

abbrev pub decreases-add_names : goal.decreases-add_names
decreases-add_names l = 4 * depth (view l.schema.now)

abbrev pub decreases-add_keywords : goal.decreases-add_keywords
decreases-add_keywords l = 4 * members_depth (members_view l.members.now.entries) + 3

abbrev pub decreases-add_at : goal.decreases-add_at
decreases-add_at l = 4 * depth (view l.value.now) + 2

abbrev pub decreases-add_list : goal.decreases-add_list
decreases-add_list l = 4 * depth (view l.list.now) + 1

abbrev pub decreases-add_items : goal.decreases-add_items
decreases-add_items l = 4 * items_depth (items_view l.schemas.now) + 3

abbrev pub invariant-add_keywords-loop-key : goal.invariant-add_keywords-loop-key
invariant-add_keywords-loop-key l = record {
  deep : members_depth (members_view l.key-iterator) ≤ members_depth (members_view l.members.entries);
  rest : with_names (names_in_keywords (members_view l.key-iterator)) (members_view l.names.entries)
      ≡ with_names (names_in_keywords (members_view l.members.entries)) (members_view l.fn.names.entries);
}

abbrev pub invariant-add_items-loop-schema : goal.invariant-add_items-loop-schema
invariant-add_items-loop-schema l = record {
  deep : items_depth (items_view (drop l.schema-index l.schemas)) ≤ items_depth (items_view l.schemas);
  rest : with_names (names_in_items (items_view (drop l.schema-index l.schemas))) (members_view l.names.entries)
      ≡ with_names (names_in_items (items_view l.schemas)) (members_view l.fn.names.entries);
}
