-- A list or an object is its parts between brackets.
use Rattle.std.proofs.Common.{◌≡◌, ◌≤◌, length, take, map, refl, sym, ap, ◌∙◌, arith, rules}
use Rattle.schemars_text.proofs.Words.{length-map, depth, members_depth, view, members_view, view-Array, SchemaLayout, first_keywords, last_keywords, member_texts, others, each_written_at, layout_meant}
use Rattle.schemars_text.proofs.Becomings.{next_seen}
use Rattle.schemars_text.proofs.FixedMembers.{held, found_depth, first_found, last_found, all_shallow, slot_shallow, slot_at}
use Rattle.schemars_text.proofs.Lists.{items_shallow}
use Rattle.schemars_text.proofs.OrderedTexts.{array_written, object_written, with_groups, keyword_found, keyword_missing}
use Rattle.schemars_text.proofs.ordered.+write.Goals as goal
use Rattle.schemars_text.proofs.ordered.+write.Goals.{write_keywords-in-Some, write_keywords-in_default}

pub write_value-returns-in-Array : goal.write_value-returns-in-Array
write_value-returns-in-Array g t c = λ start o h.
    let (a, at_a, first) = c.token-in-Array.ensures start o h in
    let (b, at_b, items) = c.write_items.ensures start a at_a in
    let (z, at_z, last) = c.token-in-Array-2.ensures start b at_b in (
      z,
      at_z,
      array_written o a b z _ _ _ _ (ap view c.in-Array.is ∙ view-Array c.in-Array.items) c.inside.ensures (first refl) items (last refl),
    )

pub write_object-returns : goal.write_object-returns
write_object-returns g t c = λ start o h.
    let (a, at_a, first) = c.token.ensures start o h in
    let (b, at_b, members) = c.write_members.ensures start a at_a in
    let (z, at_z, last) = c.token-2.ensures start b at_b in
    (z, at_z, object_written o a b z _ _ _ refl (first refl) members (last refl))

pub write_members-returns-in-Schema : goal.write_members-returns-in-Schema
write_members-returns-in-Schema g t c = λ start o h.
    let ms = members_view c.args.members.now.entries in
    let (a, at_a, first) = c.write_first-last.ensures.written start o h in
    let (b, at_b, middle) = c.write_others.ensures start a at_a in
    let (z, at_z, last) = c.write_keywords.ensures ms c.write_first-last.ensures.last start b at_b in (
      z,
      at_z,
      λ none.
          let ws = member_texts SchemaLayout ms in
          rw (last none, middle none, first none, c.in-Schema.is)
          (with_groups o (each_written_at first_keywords ws) (others ws) (each_written_at last_keywords ws)),
    )

pub write_first-returns-clause-written : goal.write_first-returns-clause-written
write_first-returns-clause-written g t c =
    let ms = members_view c.args.members.now.entries in
    c.write_keywords.ensures ms (first_found view c.find_fixed.new.found ms c.find_fixed.ensures)

pub write_first-returns-clause-last : goal.write_first-returns-clause-last
write_first-returns-clause-last g t c =
    last_found view c.find_fixed.new.found (members_view c.args.members.now.entries) _ _ c.find_fixed.ensures

pub write_items-loop-item-preserved : goal.write_items-loop-item-preserved
write_items-loop-item-preserved g t c = record {
  deep =
      let within = rw c.deref-item-items.ensures.value at c.loop-item-test.true in
      let shallow = items_shallow c.args.items.now.items c.loop-item.item-index c.item-item.result within in
      omega (arith, shallow, c.loop-item.invariant.deep);
  reaches = λ start o h.
      let (p, at_p, before) = c.loop-item.invariant.reaches start o h in
      let (q, at_q, written) = c.write_value.ensures start p at_p in (
        q,
        at_q,
        λ none.
            let next = next_seen view c.args.items.now.items c.loop-item.item-index c.item-item.result (layout_meant c.args.layout) p q _
            (rw c.deref-item-items.ensures.value at c.loop-item-test.true) (before none).floats (before none).text
            (rw (c.item-item.is, c.deref-item-items.ensures.value) at written) in
            record { floats = next.0; text = next.1 },
      );
}

pub write_keywords-write_member-requires : goal.write_keywords-write_member-requires
write_keywords-write_member-requires g t c =
    let shallow : depth (view c.in-Some.value.now) ≤ found_depth (map (held view) c.args.found.now) =
    slot_shallow view c.args.found.now c.loop-place.place _ c.in-Some.value (rw c.requires c.loop-place-test.true) c.in-Some.is in
    search rules

pub write_first-write_keywords-requires : goal.write_first-write_keywords-requires
write_first-write_keywords-requires g t c =
    let ms = members_view c.args.members.now.entries in
    let first = take 7 c.find_fixed.new.found in
    let is = first_found view c.find_fixed.new.found ms c.find_fixed.ensures in
    let shallow : found_depth (map (held view) first) ≤ members_depth ms = rw is (all_shallow first_keywords ms) in
    let seven : length first ≡ 7 = sym (length-map first (held view)) ∙ ap length is in
    search rules

pub write_members-write_keywords-requires : goal.write_members-write_keywords-requires
write_members-write_keywords-requires g t c =
    let ms = members_view c.args.members.now.entries in
    let shallow : found_depth (map (held view) c.write_first-last.result) ≤ members_depth ms =
    rw c.write_first-last.ensures.last (all_shallow last_keywords ms) in
    search rules

pub write_keywords-loop-place-preserved : goal.write_keywords-loop-place-preserved
write_keywords-loop-place-preserved g t c = λ ms looked start o h.
    let (p, at_p, before) = c.loop-place.invariant ms looked start o h in
    let ks = c.args.keywords.now in
    let i = c.loop-place.place in
    let here = slot_at view c.args.found.now ks ms i _ _ looked c.loop-place-test.true in
    elim c.match-found-place.branch [
      | write_keywords-in-Some w ↦
          let (q, at_q, written) = w.write_member.ensures start p at_p in (
            q,
            rw (w.out-is, w.lent-is) at_q,
            λ none.
                keyword_found p q ks i _ (view w.in-Some.value.now) ms _ c.loop-place-test.true
                (sym here ∙ ap (held view) w.in-Some.is) written none (before none),
          )
      | write_keywords-in_default w ↦ (
        p,
        rw (w.out-is, w.lent-is) at_p,
        λ none. keyword_missing p ks i _ ms _ c.loop-place-test.true (sym here ∙ ap (held view) w.in_default.is) (before none),
      )
    ]
