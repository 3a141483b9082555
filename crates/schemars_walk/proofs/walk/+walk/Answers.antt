-- What each call of the walk adds.
use Rattle.std.proofs.Common.{ap, ◌∙◌, arith, length}
use Rattle.schemars_walk.proofs.Words.{err_from_is_err_and, with_items_is, array, view, items_view, members_view, view-Array, view-Object, place_under, AtSchema, AtPlace, Visited}
use Rattle.schemars_walk.proofs.Walks.{turn, turn_sorted_at, turn_stops, turn_full, turns_end, item_turn, item_turn_stops, item_turns_end, at_list, at_schema_or_list, at_names, walked, recursed_stop, recursed_more, recursed_none}
use Rattle.schemars_walk.proofs.walk.+walk.Goals as goal

pub visit-returns-in_err-transform-in-Levels : goal.visit-returns-in_err-transform-in-Levels
visit-returns-in_err-transform-in-Levels g t c =
    let p = err_from_is_err_and c.from_residual.result c.from_residual.ensures.1 in
    rw (p.1, p.2, c.in-Levels.is)
    (recursed_stop g.T.Transform.makes c.in-Levels.n c.args.t.now c.transform-in-Levels.new.self c.args.schema.now
    c.transform-in-Levels.new.schema _ c.in_err-transform-in-Levels.field-0.0 (omega (arith, c.if-n-eq0.false))
    c.in_err-transform-in-Levels.ensures)

pub visit-returns-in_ok-transform-in-Levels : goal.visit-returns-in_ok-transform-in-Levels
visit-returns-in_ok-transform-in-Levels g t c =
    rw c.in-Levels.is
    (recursed_more g.T.Transform.makes c.in-Levels.n c.args.t.now c.transform-in-Levels.new.self c.walk.new.t c.args.schema.now
    c.transform-in-Levels.new.schema c.walk.new.schema c.walk.result (omega (arith, c.if-n-eq0.false))
    c.in_ok-transform-in-Levels.ensures c.walk.ensures)

pub visit-returns-then-n-eq0 : goal.visit-returns-then-n-eq0
visit-returns-then-n-eq0 g t c = rw (c.in-Levels.is, c.if-n-eq0.true) (recursed_none g.T.Transform.makes c.args.t.now c.args.schema.now
    c.args.schema.now)

pub walk-returns-in-Some : goal.walk-returns-in-Some
walk-returns-in-Some g t c =
    walked (Visited g.T.Transform.makes c.args.reach) c.args.t.now c.walk_keywords.new.t c.walk_keywords.result c.args.schema.now
    (members_view c.in-Some.members.now.entries) (members_view c.walk_keywords.new.members.entries) c.in-Some.ensures.value
    c.walk_keywords.ensures

pub walk_items-returns-in_err-walk_schema : goal.walk_items-returns-in_err-walk_schema
walk_items-returns-in_err-walk_schema g t c =
    let p = err_from_is_err_and c.from_residual.result c.from_residual.ensures.1 in
    rw (p.1, p.2) (item_turn_stops (AtSchema (Visited g.T.Transform.makes c.args.reach)) c.args.t.now c.loop-item.t c.walk_schema.new.t
    (items_view c.args.items.now) c.loop-item.items c.loop-item.item-index c.item-item.result c.loop-item.invariant (omega (
      arith,
      c.loop-item.auto.items,
      c.loop-item-test.true,
    )) c.in_err-walk_schema.field-0.0 (view c.walk_schema.new.value) _
    c.in_err-walk_schema.ensures)

pub walk_items-loop-item-preserved : goal.walk_items-loop-item-preserved
walk_items-loop-item-preserved g t c =
    item_turn (AtSchema (Visited g.T.Transform.makes c.args.reach)) c.args.t.now c.loop-item.t c.walk_schema.new.t (items_view
    c.args.items.now) c.loop-item.items c.loop-item.item-index c.item-item.result c.loop-item.invariant (omega (
      arith,
      c.loop-item.auto.items,
      c.loop-item-test.true,
    )) c.walk_schema.new.value c.in_ok-walk_schema.ensures

pub walk_items-returns : goal.walk_items-returns
walk_items-returns g t c =
    item_turns_end (AtSchema (Visited g.T.Transform.makes c.args.reach)) c.args.t.now c.loop-item.t (items_view c.args.items.now)
    c.loop-item.items c.loop-item.item-index c.loop-item.invariant (omega (arith, c.loop-item.auto.items, c.loop-item-test.false))

pub walk_keywords-returns-in_err-walk_place : goal.walk_keywords-returns-in_err-walk_place
walk_keywords-returns-in_err-walk_place g t c =
    let p = err_from_is_err_and c.from_residual.result c.from_residual.ensures.1 in
    rw (p.1, p.2) (turn_stops (λ k. AtPlace (place_under k) (Visited g.T.Transform.makes c.args.reach)) c.args.t.now c.loop-key.t
    c.walk_place.new.t (members_view c.args.members.now.entries) c.loop-key.key-iterator c.loop-key.members.entries c.next.new.self
    c.in-Some.key c.in-Some.member c.loop-key.invariant.goes_on c.in-Some.ensures.steps c.in_err-walk_place.field-0.0 (view
    c.walk_place.new.value) _ (rw (← c.as_str.ensures.value, ← c.place_under-place.ensures) c.in_err-walk_place.ensures))

pub walk_keywords-loop-key-preserved : goal.walk_keywords-loop-key-preserved
walk_keywords-loop-key-preserved g t c = record {
  sorted = turn_sorted_at c.loop-key.key-iterator c.loop-key.members.entries c.next.new.self c.put_back.new.members.entries c.in-Some.key
      c.in-Some.member c.walk_place.new.value c.loop-key.invariant.sorted c.in-Some.ensures.steps c.in_ok-put_back.ensures.ok;
  goes_on = turn (λ k. AtPlace (place_under k) (Visited g.T.Transform.makes c.args.reach)) c.args.t.now c.loop-key.t c.walk_place.new.t
      (members_view c.args.members.now.entries) c.loop-key.key-iterator c.loop-key.members.entries c.next.new.self c.in-Some.key
      c.in-Some.member c.loop-key.invariant.goes_on c.in-Some.ensures.steps
      c.put_back.new.members.entries c.walk_place.new.value c.loop-key.invariant.sorted (rw (
        ← c.as_str.ensures.value,
        ←
            c.place_under-place.ensures,
      ) c.in_ok-walk_place.ensures) c.in_ok-put_back.ensures.ok;
}

pub walk_keywords-returns-in_err-put_back : goal.walk_keywords-returns-in_err-put_back
walk_keywords-returns-in_err-put_back g t c =
    let p = err_from_is_err_and c.from_residual-in_err-put_back.result c.from_residual-in_err-put_back.ensures.1 in
    rw (p.1, p.2) (turn_full (λ k. AtPlace (place_under k) (Visited g.T.Transform.makes c.args.reach)) c.args.t.now c.loop-key.t
    c.walk_place.new.t (members_view c.args.members.now.entries) c.loop-key.key-iterator c.loop-key.members.entries c.next.new.self
    c.in-Some.key c.in-Some.member c.loop-key.invariant.goes_on c.in-Some.ensures.steps c.in_err-put_back.field-0.0 (view
    c.walk_place.new.value) _ (rw (← c.as_str.ensures.value, ← c.place_under-place.ensures) c.in_ok-walk_place.ensures)
    c.in_err-put_back.ensures.err)

pub walk_keywords-returns : goal.walk_keywords-returns
walk_keywords-returns g t c =
    turns_end (λ k. AtPlace (place_under k) (Visited g.T.Transform.makes c.args.reach)) c.args.t.now c.loop-key.t (members_view
    c.args.members.now.entries) c.loop-key.key-iterator c.loop-key.members.entries c.loop-key.invariant.goes_on
    c.in-None.ensures.steps.0

pub walk_place-returns-in-Some : goal.walk_place-returns-in-Some
walk_place-returns-in-Some g t c =
    rw c.in-List.is (at_list (Visited g.T.Transform.makes c.args.reach) c.args.t.now c.walk_items.new.t c.walk_items.result (view
    c.args.value.now) _ (items_view c.in-Some.items.now.items) (items_view c.walk_items.new.items) c.in-Some.ensures.value (rw (←
    c.deref_mut.ensures.value) c.walk_items.ensures) (view-Array _ ∙ ap (λ xs. array (items_view xs)) (with_items_is
    c.in-Some.items.now c.walk_items.new.items (omega (
      arith,
      c.walk_items.auto.items,
      ap length c.deref_mut.ensures.value,
      c.in-Some.items.now.ok.0,
    )))))

pub walk_place-returns-in-Some-as_object_mut : goal.walk_place-returns-in-Some-as_object_mut
walk_place-returns-in-Some-as_object_mut g t c =
    rw c.in-Names.is (at_names (Visited g.T.Transform.makes c.args.reach) c.args.t.now c.walk_names.new.t c.walk_names.result (view
    c.args.value.now) _ (members_view c.in-Some-as_object_mut.members.now.entries) (members_view c.walk_names.new.members.entries)
    c.in-Some-as_object_mut.ensures.value c.walk_names.ensures (view-Object _))

pub walk_place-returns-in-Some-as_array_mut : goal.walk_place-returns-in-Some-as_array_mut
walk_place-returns-in-Some-as_array_mut g t c =
    rw c.in-SchemaOrList.is (at_schema_or_list (Visited g.T.Transform.makes c.args.reach) c.args.t.now
    c.walk_items-in-Some-as_array_mut.new.t c.walk_items-in-Some-as_array_mut.result (view c.args.value.now) _ (items_view
    c.in-Some-as_array_mut.items.now.items) (items_view c.walk_items-in-Some-as_array_mut.new.items)
    c.in-Some-as_array_mut.ensures.value (rw (← c.deref_mut-in-Some-as_array_mut.ensures.value) c.walk_items-in-Some-as_array_mut.ensures)
    (view-Array _ ∙ ap (λ xs. array (items_view xs)) (with_items_is c.in-Some-as_array_mut.items.now
    c.walk_items-in-Some-as_array_mut.new.items
    (omega (
      arith,
      c.walk_items-in-Some-as_array_mut.auto.items,
      ap length c.deref_mut-in-Some-as_array_mut.ensures.value,
      c.in-Some-as_array_mut.items.now.ok.0,
    )))))

pub walk_names-returns-in_err-walk_schema : goal.walk_names-returns-in_err-walk_schema
walk_names-returns-in_err-walk_schema g t c =
    let p = err_from_is_err_and c.from_residual.result c.from_residual.ensures.1 in
    rw (p.1, p.2) (turn_stops (λ k. AtSchema (Visited g.T.Transform.makes c.args.reach)) c.args.t.now c.loop-key.t c.walk_schema.new.t
    (members_view c.args.members.now.entries) c.loop-key.key-iterator c.loop-key.members.entries c.next.new.self c.in-Some.key
    c.in-Some.member c.loop-key.invariant.goes_on c.in-Some.ensures.steps c.in_err-walk_schema.field-0.0 (view
    c.walk_schema.new.value) _ c.in_err-walk_schema.ensures)

pub walk_names-loop-key-preserved : goal.walk_names-loop-key-preserved
walk_names-loop-key-preserved g t c = record {
  sorted = turn_sorted_at c.loop-key.key-iterator c.loop-key.members.entries c.next.new.self c.put_back.new.members.entries c.in-Some.key
      c.in-Some.member c.walk_schema.new.value c.loop-key.invariant.sorted c.in-Some.ensures.steps c.in_ok-put_back.ensures.ok;
  goes_on = turn (λ k. AtSchema (Visited g.T.Transform.makes c.args.reach)) c.args.t.now c.loop-key.t c.walk_schema.new.t (members_view
      c.args.members.now.entries) c.loop-key.key-iterator c.loop-key.members.entries c.next.new.self c.in-Some.key c.in-Some.member
      c.loop-key.invariant.goes_on c.in-Some.ensures.steps
      c.put_back.new.members.entries c.walk_schema.new.value c.loop-key.invariant.sorted c.in_ok-walk_schema.ensures
      c.in_ok-put_back.ensures.ok;
}

pub walk_names-returns-in_err-put_back : goal.walk_names-returns-in_err-put_back
walk_names-returns-in_err-put_back g t c =
    let p = err_from_is_err_and c.from_residual-in_err-put_back.result c.from_residual-in_err-put_back.ensures.1 in
    rw (p.1, p.2) (turn_full (λ k. AtSchema (Visited g.T.Transform.makes c.args.reach)) c.args.t.now c.loop-key.t c.walk_schema.new.t
    (members_view c.args.members.now.entries) c.loop-key.key-iterator c.loop-key.members.entries c.next.new.self c.in-Some.key
    c.in-Some.member c.loop-key.invariant.goes_on c.in-Some.ensures.steps c.in_err-put_back.field-0.0 (view c.walk_schema.new.value)
    _ c.in_ok-walk_schema.ensures c.in_err-put_back.ensures.err)

pub walk_names-returns : goal.walk_names-returns
walk_names-returns g t c =
    turns_end (λ k. AtSchema (Visited g.T.Transform.makes c.args.reach)) c.args.t.now c.loop-key.t (members_view
    c.args.members.now.entries) c.loop-key.key-iterator c.loop-key.members.entries c.loop-key.invariant.goes_on
    c.in-None.ensures.steps.0
