-- A list or an object is its parts between brackets.
use Rattle.std.proofs.Common.{◌≡◌, ◌≤◌, length, take, drop, map, sym, ap, ◌∙◌, rules}
use Rattle.schemars_parts.proofs.Words.{length-map, on_ok_weaker, depth, members_depth, SchemaLayout, first_keywords, last_keywords, member_texts, others, each_written_at, held, found_depth, first_found, all_shallow, slot_shallow, slot_at, array_written, object_written, with_groups, keyword_found, keyword_missing, assembled_view, members_assembled}
use Rattle.schemars_parts.proofs.PartViews.{seen_list, seen_object}
use Rattle.schemars_parts.proofs.Written.{last_found}
use Rattle.schemars_parts.proofs.writing.+write.Goals as goal
use Rattle.schemars_parts.proofs.writing.+write.Goals.{write_found-in-Some+in_ok-write_member, write_found-in_default}

pub write_part-returns-in_ok-write_items-in-List : goal.write_part-returns-in_ok-write_items-in-List
write_part-returns-in_ok-write_items-in-List t c = on_ok_weaker c.token-in-List-2.result (λ last.
    array_written _ _ _ _ _ _ _ _ (ap assembled_view c.in-List.is ∙ seen_list c.in-List.parts) c.inside.ensures c.in_ok-token-in-List.ensures
    c.in_ok-write_items-in-List.ensures last) c.token-in-List-2.ensures

pub write_part-returns-in_ok-write_members-in-Object : goal.write_part-returns-in_ok-write_members-in-Object
write_part-returns-in_ok-write_members-in-Object t c = on_ok_weaker c.token-in-Object-2.result (λ last.
    object_written _ _ _ _ _ _ _ (ap assembled_view c.in-Object.is ∙ seen_object c.in-Object.members) c.in_ok-token-in-Object.ensures
    c.in_ok-write_members-in-Object.ensures last) c.token-in-Object-2.ensures

pub write_members-returns-in-Schema : goal.write_members-returns-in-Schema
write_members-returns-in-Schema t c = rw c.in-Schema.is c.write_keywords.ensures

pub write_keywords-returns : goal.write_keywords-returns
write_keywords-returns t c =
    let ms = members_assembled c.args.members.now.items in
    let found = c.find_fixed.new.found in
    on_ok_weaker c.write_found-2.result (λ last none.
    let ws = member_texts SchemaLayout ms in
    rw (
      last ms (last_found found ms c.find_fixed.ensures) none,
      c.in_ok-write_others.ensures none,
      c.in_ok-write_found.ensures ms (first_found assembled_view found ms c.find_fixed.ensures) none,
    )
    (with_groups c.args.out.now (each_written_at first_keywords ws) (others ws) (each_written_at last_keywords ws)))
    c.write_found-2.ensures

pub write_keywords-write_found-requires : goal.write_keywords-write_found-requires
write_keywords-write_found-requires t c =
    let ms = members_assembled c.args.members.now.items in
    let first = take 7 c.find_fixed.new.found in
    let is = first_found assembled_view c.find_fixed.new.found ms c.find_fixed.ensures in
    let shallow : found_depth (map (held assembled_view) first) ≤ members_depth ms = rw is (all_shallow first_keywords ms) in
    let seven : length first ≡ 7 = sym (length-map first (held assembled_view)) ∙ ap length is in
    search rules

pub write_keywords-write_found-requires-2 : goal.write_keywords-write_found-requires-2
write_keywords-write_found-requires-2 t c =
    let ms = members_assembled c.args.members.now.items in
    let last = take 2 (drop 7 c.find_fixed.new.found) in
    let is = last_found c.find_fixed.new.found ms c.find_fixed.ensures in
    let shallow : found_depth (map (held assembled_view) last) ≤ members_depth ms = rw is (all_shallow last_keywords ms) in
    let two : length last ≡ 2 = sym (length-map last (held assembled_view)) ∙ ap length is in
    search rules

pub write_found-write_member-requires : goal.write_found-write_member-requires
write_found-write_member-requires t c =
    let shallow : depth (assembled_view c.in-Some.part.now) ≤ found_depth (map (held assembled_view) c.args.found.now) =
    slot_shallow assembled_view c.args.found.now c.loop-place.place _ c.in-Some.part (rw c.requires c.loop-place-test.true) c.in-Some.is in
    search rules

pub write_found-loop-place-preserved : goal.write_found-loop-place-preserved
write_found-loop-place-preserved t c = λ ms looked none.
    let before = c.loop-place.invariant ms looked none in
    let ks = c.args.keywords.now in
    let i = c.loop-place.place in
    let here = slot_at assembled_view c.args.found.now ks ms i _ _ looked c.loop-place-test.true in
    elim c.match-found-place.branch [
      | write_found-in-Some+in_ok-write_member w ↦
          rw w.out-is (keyword_found c.loop-place.out _ ks i _ (assembled_view w.in-Some.part.now) ms _ c.loop-place-test.true
          (sym here ∙ ap (held assembled_view) w.in-Some.is) w.in_ok-write_member.ensures none before)
      | write_found-in_default w ↦
          rw w.out-is (keyword_missing c.loop-place.out ks i _ ms _ c.loop-place-test.true (sym here ∙ ap (held assembled_view) w.in_default.is) before)
    ]
