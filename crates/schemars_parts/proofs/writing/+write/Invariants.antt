-- What is left, after the output so far, leads to what the whole leads to after the output at the start.
use Rattle.std.proofs.Common.{◌≡◌, ◌≤◌, ◌+◌, ◌*◌, drop, map, false}
use Rattle.schemars_parts.proofs.Words.{Members, depth, items_depth, members_depth, get_member, items_have_float, members_have_float, with_values, layout_meant, SchemaLayout, item_texts, member_texts, texts, others, each_written_at, held, found_depth, assembled_view, items_assembled, members_assembled}
use Rattle.schemars_parts.proofs.writing.+write.Given as goal

abbrev pub decreases-write_part : goal.decreases-write_part
decreases-write_part l = 6 * depth (assembled_view l.part.now)

abbrev pub decreases-write_items : goal.decreases-write_items
decreases-write_items l = 6 * items_depth (items_assembled l.parts.now.items) + 5

abbrev pub decreases-write_members : goal.decreases-write_members
decreases-write_members l = 6 * members_depth (members_assembled l.members.now.items) + 4

abbrev pub decreases-write_keywords : goal.decreases-write_keywords
decreases-write_keywords l = 6 * members_depth (members_assembled l.members.now.items) + 3

abbrev pub decreases-write_in_map_order : goal.decreases-write_in_map_order
decreases-write_in_map_order l = 6 * members_depth (members_assembled l.members.now.items) + 2

abbrev pub decreases-write_found : goal.decreases-write_found
decreases-write_found l = 6 * found_depth (map (held assembled_view) l.found.now) + 2

abbrev pub decreases-write_others : goal.decreases-write_others
decreases-write_others l = 6 * members_depth (members_assembled l.members.now.items) + 2

abbrev pub decreases-write_member : goal.decreases-write_member
decreases-write_member l = 6 * depth (assembled_view l.part.now) + 1

abbrev pub invariant-write_items-loop-part : goal.invariant-write_items-loop-part
invariant-write_items-loop-part l = record {
  deep : items_depth (items_assembled (drop l.part-index l.parts.items)) ≤ items_depth (items_assembled l.parts.items);
  text : items_have_float (items_assembled l.parts.items) ≡ false → record {
    floats : items_have_float (items_assembled (drop l.part-index l.parts.items)) ≡ false;
    text : with_values l.out (item_texts (layout_meant l.layout) (items_assembled (drop l.part-index l.parts.items)))
        ≡ with_values l.fn.out (item_texts (layout_meant l.layout) (items_assembled l.parts.items));
  };
}

abbrev pub invariant-write_in_map_order-loop-key : goal.invariant-write_in_map_order-loop-key
invariant-write_in_map_order-loop-key l = record {
  deep : members_depth (members_assembled (drop l.key-index l.key-items)) ≤ members_depth (members_assembled l.members.items);
  text : members_have_float (members_assembled l.members.items) ≡ false → record {
    floats : members_have_float (members_assembled (drop l.key-index l.key-items)) ≡ false;
    text : with_values l.out (texts (member_texts (layout_meant l.layout) (members_assembled (drop l.key-index l.key-items))))
        ≡ with_values l.fn.out (texts (member_texts (layout_meant l.layout) (members_assembled l.members.items)));
  };
}

abbrev pub invariant-write_found-loop-place : goal.invariant-write_found-loop-place
invariant-write_found-loop-place l = (ms : Members) → map (held assembled_view) l.found ≡ map (λ k. get_member k.now ms) l.keywords
    → members_have_float ms ≡ false
    → with_values l.out (texts (each_written_at (map (λ k. k.now) (drop l.place l.keywords)) (member_texts SchemaLayout ms)))
    ≡ with_values l.fn.out (texts (each_written_at (map (λ k. k.now) l.keywords) (member_texts SchemaLayout ms)))

abbrev pub invariant-write_others-loop-key : goal.invariant-write_others-loop-key
invariant-write_others-loop-key l = record {
  deep : members_depth (members_assembled (drop l.key-index l.key-items)) ≤ members_depth (members_assembled l.members.items);
  text : members_have_float (members_assembled l.members.items) ≡ false → record {
    floats : members_have_float (members_assembled (drop l.key-index l.key-items)) ≡ false;
    text : with_values l.out (texts (others (member_texts SchemaLayout (members_assembled (drop l.key-index l.key-items)))))
        ≡ with_values l.fn.out (texts (others (member_texts SchemaLayout (members_assembled l.members.items))));
  };
}
