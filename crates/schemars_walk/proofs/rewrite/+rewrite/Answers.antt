-- What each call of the rewrite adds.
use Rattle.std.proofs.Common.{◌≡◌, ◌<◌, ◌≤◌, length, map, refl, sym, ap, ◌∙◌, subst, arith}
use Rattle.schemars_walk.proofs.Words.{keys_of, values_of, length-keys_of, length-values_of, with_items_is, length-set, on_ok_weaker, array, object, items_depth, view, items_view, members_view, view-Array, view-Object, IsSchema, place_meant, member_places, in_places, forms, in_items, rewritten, with_subschemas}
use Rattle.schemars_walk.specs.declared.rewrite.place.Place.TheVariants.{Nothing}
use Rattle.schemars_walk.proofs.Rewrites.{depth_past, depth_at, item_done, items_done, items_more, items_none, a_list, no_list, either_list, either_schema, some_names, no_names, no_schema, rewritten_by, subschemas_of_object}
use Rattle.schemars_walk.proofs.Parts.{as_many, depth_of_values, same_members, keywords_unread, keywords_together, names_together, value_done, values_done}
use Rattle.schemars_walk.proofs.rewrite.+rewrite.Goals as goal

pub rewrite-returns : goal.rewrite-returns
rewrite-returns g t c =
    let ρ = g.R.Rule.rules in let d = c.args.schema.now in
    let inner : c.inside-inner.result ≡ ρ.inside c.args.rule d = c.inside-inner.ensures ∙ ap (ρ.inside c.args.rule)
    c.as_value.ensures.value in
    let e : rewritten ρ c.args.rule d ≡ ρ.finish c.inside-inner.result c.rewrite_subschemas.new.schema =
    rewritten_by ρ c.args.rule d c.as_value.ensures.schema ∙ ap (λ i. ρ.finish i (with_subschemas ρ i d)) (sym inner) ∙ ap (ρ.finish
    c.inside-inner.result) (sym c.in_ok-rewrite_subschemas.ensures) in
    on_ok_weaker c.finish.result (λ h. h ∙ sym e) c.finish.ensures

pub rewrite_subschemas-returns-in-Some : goal.rewrite_subschemas-returns-in-Some
rewrite_subschemas-returns-in-Some g t c =
    on_ok_weaker c.rewrite_keywords.result (λ h. ap object h ∙ subschemas_of_object g.R.Rule.rules c.args.rule c.args.schema.now
    (members_view c.in-Some.members.now.entries) c.in-Some.ensures.value) c.rewrite_keywords.ensures

pub rewrite_items-loop-item-preserved : goal.rewrite_items-loop-item-preserved
rewrite_items-loop-item-preserved g t c =
    let ρ = g.R.Rule.rules in let r = c.args.rule in
    let within : c.loop-item.item-index < length c.loop-item.items = omega (arith, c.loop-item.auto.items, c.loop-item-test.true) in
    let past = depth_past c.loop-item.items c.loop-item.item-index c.rewrite_schema.new.value within in record {
      deep = omega (arith, past, c.loop-item.invariant.deep);
      rest = item_done (in_items ρ r) (λ d. (forms ρ r d).as_schema) (items_more ρ r) (in_items ρ r (items_view c.args.items.now))
          c.loop-item.items c.loop-item.item-index c.item-item.result c.rewrite_schema.new.value within c.in_ok-rewrite_schema.ensures
          c.loop-item.invariant.rest;
    }

pub rewrite_items-returns : goal.rewrite_items-returns
rewrite_items-returns g t c =
    let ρ = g.R.Rule.rules in let r = c.args.rule in
    items_done (in_items ρ r) (items_none ρ r) (in_items ρ r (items_view c.args.items.now)) c.loop-item.items c.loop-item.item-index
    (omega (arith, c.loop-item.auto.items, c.loop-item-test.false)) c.loop-item.invariant.rest

pub rewrite_place-returns-in-Some : goal.rewrite_place-returns-in-Some
rewrite_place-returns-in-Some g t c =
    let ρ = g.R.Rule.rules in let r = c.args.rule in
    let new = view-Array _ ∙ ap (λ xs. array (items_view xs)) (with_items_is c.in-Some.items.now c.rewrite_items.new.items (omega (
      arith,
      c.rewrite_items.auto.items,
      ap length c.deref_mut.ensures.value,
      c.in-Some.items.now.ok.0,
    ))) in
    rw c.in-List.is
    (on_ok_weaker c.rewrite_items.result (λ h. new ∙ ap array (h ∙ ap (λ xs. in_items ρ r (items_view xs)) c.deref_mut.ensures.value) ∙
    a_list ρ r (view c.args.value.now) (items_view c.in-Some.items.now.items) c.in-Some.ensures.value) c.rewrite_items.ensures)

pub rewrite_place-returns-in-None : goal.rewrite_place-returns-in-None
rewrite_place-returns-in-None g t c = rw c.in-List.is (no_list g.R.Rule.rules c.args.rule (view c.args.value.now) c.in-None.ensures.value)

pub rewrite_place-returns-in-Some-as_array_mut : goal.rewrite_place-returns-in-Some-as_array_mut
rewrite_place-returns-in-Some-as_array_mut g t c =
    let ρ = g.R.Rule.rules in let r = c.args.rule in let call = c.rewrite_items-in-Some-as_array_mut in let items =
    c.in-Some-as_array_mut.items.now in let lent = c.deref_mut-in-Some-as_array_mut.ensures.value in
    let new = view-Array _ ∙ ap (λ xs. array (items_view xs)) (with_items_is items call.new.items (omega (
      arith,
      call.auto.items,
      ap
          length lent,
      items.ok.0,
    ))) in
    rw c.in-SchemaOrList.is
    (on_ok_weaker call.result (λ h. new ∙ ap array (h ∙ ap (λ xs. in_items ρ r (items_view xs)) lent) ∙ either_list ρ r (view
    c.args.value.now) (items_view items.items) c.in-Some-as_array_mut.ensures.value) call.ensures)

pub rewrite_place-returns-in-None-as_array_mut : goal.rewrite_place-returns-in-None-as_array_mut
rewrite_place-returns-in-None-as_array_mut g t c =
    rw c.in-SchemaOrList.is
    (on_ok_weaker c.rewrite_schema-in-None-as_array_mut.result (λ h. h ∙ either_schema g.R.Rule.rules c.args.rule (view c.args.value.now)
    c.in-None-as_array_mut.ensures.value) c.rewrite_schema-in-None-as_array_mut.ensures)

pub rewrite_place-returns-in-Some-as_object_mut : goal.rewrite_place-returns-in-Some-as_object_mut
rewrite_place-returns-in-Some-as_object_mut g t c =
    rw c.in-Names.is
    (on_ok_weaker c.rewrite_names.result (λ h. view-Object _ ∙ ap object h ∙ some_names g.R.Rule.rules c.args.rule (view
    c.args.value.now) (members_view c.in-Some-as_object_mut.members.now.entries) c.in-Some-as_object_mut.ensures.value)
    c.rewrite_names.ensures)

pub rewrite_place-returns-in-None-as_object_mut : goal.rewrite_place-returns-in-None-as_object_mut
rewrite_place-returns-in-None-as_object_mut g t c = rw c.in-Names.is (no_names g.R.Rule.rules c.args.rule (view c.args.value.now)
    c.in-None-as_object_mut.ensures.value)

pub rewrite_schema-returns-in-Err : goal.rewrite_schema-returns-in-Err
rewrite_schema-returns-in-Err g t c =
    let h = c.in-Err.ensures in
    ap view (h.0 ∙ c.replace.ensures.value) ∙ no_schema g.R.Rule.rules c.args.rule (view c.args.value.now) (subst (λ v. ¬ IsSchema (view
    v)) c.replace.ensures.value h.1)

pub rewrite_keywords-returns-then-not-holds_schemas : goal.rewrite_keywords-returns-then-not-holds_schemas
rewrite_keywords-returns-then-not-holds_schemas g t c = keywords_unread g.R.Rule.rules c.args.rule (members_view c.args.members.now.entries)
    (c.holds_schemas.ensures c.if-not-holds_schemas.true)

pub rewrite_keywords-rewrite_values-requires : goal.rewrite_keywords-rewrite_values-requires
rewrite_keywords-rewrite_values-requires g t c =
    let es = c.args.members.now.entries in
    let taken : c.deref_mut.result.now ≡ values_of es = c.deref_mut.ensures.value ∙ c.in_ok-values.ensures.values in
    let deep = ap (λ vs. items_depth (items_view vs)) taken ∙ depth_of_values es in
    let many = ap length c.deref.ensures.value ∙ as_many (g.R.Rule.rules.place c.args.rule) c.in_ok-places.places.items es
    c.in_ok-places.ensures ∙ ap length (sym taken) in
    λ κs s. (omega (arith, deep, c.decreases), (s, many))

pub rewrite_keywords-returns : goal.rewrite_keywords-returns
rewrite_keywords-returns g t c =
    let ρ = g.R.Rule.rules in let r = c.args.rule in let es = c.args.members.now.entries in
    let new = c.rewrite_values.new.values in
    let keys = c.take_values.ensures.keys in
    let taken : c.deref_mut.result.now ≡ values_of es = c.deref_mut.ensures.value ∙ c.in_ok-values.ensures.values in
    let places : map place_meant c.deref.result.now ≡ member_places (ρ.place r) (members_view es) =
    ap (map place_meant) c.deref.ensures.value ∙ c.in_ok-places.ensures in
    let call = c.in_ok-rewrite_values.ensures
    ∙ ap (λ vs. in_places ρ r (map place_meant c.deref.result.now) (items_view vs)) taken
    ∙ ap (λ ps. in_places ρ r ps (items_view (values_of es))) places in
    let written = with_items_is c.in_ok-values.values new (omega (
      arith,
      c.rewrite_values.auto.values,
      ap length c.deref_mut.ensures.value,
      c.in_ok-values.values.ok.0,
    )) in
    let full = ap length written ∙ c.rewrite_values.auto.values ∙ ap length taken ∙ length-values_of es ∙ sym (length-keys_of es)
    ∙ ap length (sym keys) ∙ length-keys_of _ in
    ap members_view (c.put_values.ensures full) ∙ same_members (keys_of es) (keys_of c.take_values.new.members.entries) _ new keys written ∙
    keywords_together ρ r es new call

pub rewrite_names-rewrite_items-requires : goal.rewrite_names-rewrite_items-requires
rewrite_names-rewrite_items-requires g t c =
    let es = c.args.members.now.entries in
    let taken : c.deref_mut.result.now ≡ values_of es = c.deref_mut.ensures.value ∙ c.in_ok-values.ensures.values in
    let deep = ap (λ vs. items_depth (items_view vs)) taken ∙ depth_of_values es in
    λ κs s. (omega (arith, deep, c.decreases), s)

pub rewrite_names-returns : goal.rewrite_names-returns
rewrite_names-returns g t c =
    let ρ = g.R.Rule.rules in let r = c.args.rule in let es = c.args.members.now.entries in
    let new = c.rewrite_items.new.items in
    let keys = c.take_values.ensures.keys in
    let taken : c.deref_mut.result.now ≡ values_of es = c.deref_mut.ensures.value ∙ c.in_ok-values.ensures.values in
    let call = c.in_ok-rewrite_items.ensures ∙ ap (λ vs. in_items ρ r (items_view vs)) taken in
    let written = with_items_is c.in_ok-values.values new (omega (
      arith,
      c.rewrite_items.auto.items,
      ap length c.deref_mut.ensures.value,
      c.in_ok-values.values.ok.0,
    )) in
    let full = ap length written ∙ c.rewrite_items.auto.items ∙ ap length taken ∙ length-values_of es ∙ sym (length-keys_of es) ∙ ap length
    (sym keys) ∙ length-keys_of _ in
    ap members_view (c.put_values.ensures full) ∙ same_members (keys_of es) (keys_of c.take_values.new.members.entries) _ new keys written ∙
    names_together ρ r es new call

pub rewrite_values-loop-index-init : goal.rewrite_values-loop-index-init
rewrite_values-loop-index-init g t c = record {
  many = refl;
  deep = omega arith;
  rest = refl;
}

pub rewrite_values-rewrite_place-requires : goal.rewrite_values-rewrite_place-requires
rewrite_values-rewrite_place-requires g t c =
    let within : c.loop-index.index < length c.loop-index.values =
    omega (arith, c.loop-index.invariant.many, c.requires, c.loop-index-test.true) in
    let here = depth_at c.loop-index.values c.loop-index.index c.index-values-index.result within in
    λ κs s. (omega (arith, here, c.loop-index.invariant.deep, c.decreases), s)

pub rewrite_values-loop-index-preserved : goal.rewrite_values-loop-index-preserved
rewrite_values-loop-index-preserved g t c =
    let ρ = g.R.Rule.rules in let r = c.args.rule in let i = c.loop-index.index in let xs = c.loop-index.values in
    let few : i < length c.args.places.now = omega (arith, c.loop-index-test.true) in
    let within : i < length xs = omega (arith, few, c.loop-index.invariant.many, c.requires) in
    let past = depth_past xs i c.rewrite_place.new.value within in record {
      many = length-set xs i c.rewrite_place.new.value ∙ c.loop-index.invariant.many;
      deep = omega (arith, past, c.loop-index.invariant.deep);
      rest = value_done ρ r (in_places ρ r (map place_meant c.args.places.now) (items_view c.args.values.now)) c.args.places.now xs i
          Nothing c.index-values-index.result c.rewrite_place.new.value few within c.in_ok-rewrite_place.ensures
          c.loop-index.invariant.rest;
    }

pub rewrite_values-returns : goal.rewrite_values-returns
rewrite_values-returns g t c =
    let ρ = g.R.Rule.rules in let r = c.args.rule in
    let end : length c.args.places.now ≤ c.loop-index.index = omega (arith, c.loop-index-test.false) in
    values_done ρ r (in_places ρ r (map place_meant c.args.places.now) (items_view c.args.values.now)) c.args.places.now c.loop-index.values
    c.loop-index.index end (omega (arith, end, c.loop-index.invariant.many, c.requires)) c.loop-index.invariant.rest
