-- Nothing so far closes, so that what is left closes as the whole does; and nothing that is left is deeper.
use Rattle.std.proofs.Common.{◌≡◌, ◌+◌, ◌*◌, ◌≤◌, drop}
use Rattle.schemars_flatten.proofs.Words.{depth, items_depth, members_depth, view, items_view, members_view, closed_in_items, closed_in_keywords}
use Rattle.schemars_flatten.proofs.part.closing.+closing.Given as goal

abbrev pub decreases-schema_closes : goal.decreases-schema_closes
decreases-schema_closes l = 4 * depth (view l.schema.now)

abbrev pub decreases-keywords_close : goal.decreases-keywords_close
decreases-keywords_close l = 4 * members_depth (members_view l.members.now.entries) + 3

abbrev pub decreases-keyword_closes : goal.decreases-keyword_closes
decreases-keyword_closes l = 4 * depth (view l.value.now) + 2

abbrev pub decreases-list_closes : goal.decreases-list_closes
decreases-list_closes l = 4 * depth (view l.list.now) + 1

abbrev pub decreases-items_close : goal.decreases-items_close
decreases-items_close l = 4 * items_depth (items_view l.schemas.now) + 3

abbrev pub invariant-keywords_close-loop-key : goal.invariant-keywords_close-loop-key
invariant-keywords_close-loop-key l = record {
  deep : members_depth (members_view l.key-iterator) ≤ members_depth (members_view l.members.entries);
  rest : closed_in_keywords (members_view l.key-iterator) ≡ closed_in_keywords (members_view l.members.entries);
}

abbrev pub invariant-items_close-loop-schema : goal.invariant-items_close-loop-schema
invariant-items_close-loop-schema l = record {
  deep : items_depth (items_view (drop l.schema-index l.schemas)) ≤ items_depth (items_view l.schemas);
  rest : closed_in_items (items_view (drop l.schema-index l.schemas)) ≡ closed_in_items (items_view l.schemas);
}
