-- From each output that was held at the start, one is held now that leads with what is left to what the whole leads to.
use Rattle.std.proofs.Common.{◌≡◌, ◌≤◌, ◌+◌, ◌*◌, drop, map, false}
use Rattle.schemars_text.proofs.Words.{Members, depth, items_depth, members_depth, get_member, view, items_view, members_view, items_have_float, members_have_float, with_values, layout_meant, SchemaLayout, item_texts, member_texts, texts, others, each_written_at}
use Rattle.schemars_text.proofs.Becomings.{Reaches}
use Rattle.schemars_text.proofs.FixedMembers.{held, found_depth}
use Rattle.schemars_text.proofs.ordered.+write.Given as goal

abbrev pub decreases-write_value : goal.decreases-write_value
decreases-write_value g l = 6 * depth (view l.value.now)

abbrev pub decreases-write_object : goal.decreases-write_object
decreases-write_object g l = 6 * members_depth (members_view l.members.now.entries) + 5

abbrev pub decreases-write_items : goal.decreases-write_items
decreases-write_items g l = 6 * items_depth (items_view l.items.now.items) + 5

abbrev pub decreases-write_members : goal.decreases-write_members
decreases-write_members g l = 6 * members_depth (members_view l.members.now.entries) + 4

abbrev pub decreases-write_first : goal.decreases-write_first
decreases-write_first g l = 6 * members_depth (members_view l.members.now.entries) + 3

abbrev pub decreases-write_in_map_order : goal.decreases-write_in_map_order
decreases-write_in_map_order g l = 6 * members_depth (members_view l.members.now.entries) + 2

abbrev pub decreases-write_keywords : goal.decreases-write_keywords
decreases-write_keywords g l = 6 * found_depth (map (held view) l.found.now) + 2

abbrev pub decreases-write_others : goal.decreases-write_others
decreases-write_others g l = 6 * members_depth (members_view l.members.now.entries) + 2

abbrev pub decreases-write_member : goal.decreases-write_member
decreases-write_member g l = 6 * depth (view l.value.now) + 1

abbrev pub invariant-write_items-loop-item : goal.invariant-write_items-loop-item
invariant-write_items-loop-item g l = record {
  deep : items_depth (items_view (drop l.item-index l.items.items)) ≤ items_depth (items_view l.items.items);
  reaches : Reaches (g.T.Target.has l.fn.out l.fn.lent) (g.T.Target.has l.out l.lent)
      (λ o p. items_have_float (items_view l.items.items) ≡ false → record {
        floats : items_have_float (items_view (drop l.item-index l.items.items)) ≡ false;
        text : with_values p (item_texts (layout_meant l.layout) (items_view (drop l.item-index l.items.items)))
            ≡ with_values o (item_texts (layout_meant l.layout) (items_view l.items.items));
      });
}

abbrev pub invariant-write_in_map_order-loop-key : goal.invariant-write_in_map_order-loop-key
invariant-write_in_map_order-loop-key g l = record {
  deep : members_depth (members_view l.key-iterator) ≤ members_depth (members_view l.members.entries);
  reaches : Reaches (g.T.Target.has l.fn.out l.fn.lent) (g.T.Target.has l.out l.lent)
      (λ o p. members_have_float (members_view l.members.entries) ≡ false → record {
        floats : members_have_float (members_view l.key-iterator) ≡ false;
        text : with_values p (texts (member_texts (layout_meant l.layout) (members_view l.key-iterator)))
            ≡ with_values o (texts (member_texts (layout_meant l.layout) (members_view l.members.entries)));
      });
}

abbrev pub invariant-write_keywords-loop-place : goal.invariant-write_keywords-loop-place
invariant-write_keywords-loop-place g l = (ms : Members) → map (held view) l.found ≡ map (λ k. get_member k.now ms) l.keywords
    → Reaches (g.T.Target.has l.fn.out l.fn.lent) (g.T.Target.has l.out l.lent)
    (λ o p. members_have_float ms ≡ false
    → with_values p (texts (each_written_at (map (λ k. k.now) (drop l.place l.keywords)) (member_texts SchemaLayout ms)))
    ≡ with_values o (texts (each_written_at (map (λ k. k.now) l.keywords) (member_texts SchemaLayout ms))))

abbrev pub invariant-write_others-loop-key : goal.invariant-write_others-loop-key
invariant-write_others-loop-key g l = record {
  deep : members_depth (members_view l.key-iterator) ≤ members_depth (members_view l.members.entries);
  reaches : Reaches (g.T.Target.has l.fn.out l.fn.lent) (g.T.Target.has l.out l.lent)
      (λ o p. members_have_float (members_view l.members.entries) ≡ false → record {
        floats : members_have_float (members_view l.key-iterator) ≡ false;
        text : with_values p (texts (others (member_texts SchemaLayout (members_view l.key-iterator))))
            ≡ with_values o (texts (others (member_texts SchemaLayout (members_view l.members.entries))));
      });
}
