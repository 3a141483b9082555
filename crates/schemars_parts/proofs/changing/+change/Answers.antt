-- A part is no deeper than what it is in, and goes behind those that were changed before it.
use Rattle.std.proofs.Common.{◌≡◌, length, refl, sym, ap, ◌∙◌, arith, rules}
use Rattle.schemars_parts.proofs.Words.{IfOk-weaker, nil_from_length, array, object, items_depth, members_depth, in_items, in_keywords, in_names, rules_of, assembled_view, items_assembled, members_assembled, changed_one, changed_place}
use Rattle.schemars_parts.proofs.Lists.{members_before, before_none, items_before, none_behind}
use Rattle.schemars_parts.proofs.PartViews.{seen_list, seen_object}
use Rattle.schemars_parts.proofs.Rules.{scalar_stays}
use Rattle.schemars_parts.proofs.Taken.{item_taken, keyword_taken, name_taken, object_made}
use Rattle.schemars_parts.proofs.changing.+change.Goals as goal

pub change_schema-returns-in_ok-members-in-Object : goal.change_schema-returns-in_ok-members-in-Object
change_schema-returns-in_ok-members-in-Object t c =
    let at = c.args.transform.now in
    IfOk-weaker c.finish.result _ _
    (λ p h. h ∙ (ap (λ ms. changed_one at (object ms)) c.in_ok-members-in-Object.ensures
    ∙ object_made at c.in-Object.members c.args.part c.in-Object.is))
    c.finish.ensures

pub change_keywords-change_member-requires : goal.change_keywords-change_member-requires
change_keywords-change_member-requires t c =
    let deep = ap (λ xs. members_depth (members_assembled xs)) c.in-Some.ensures.steps.0 in
    (omega (arith, deep, c.loop-name.invariant.deep, c.decreases), tt)

pub change_keywords-loop-name-preserved : goal.change_keywords-loop-name-preserved
change_keywords-loop-name-preserved t c =
    let at = c.args.transform.now in
    let here = c.in-Some.ensures.steps.0 in
    let deep = ap (λ xs. members_depth (members_assembled xs)) here in
    record {
      deep = omega (arith, deep, c.loop-name.invariant.deep);
      value =
          keyword_taken at c.loop-name.changed.items c.push.new.self.items c.next.new.self.rest.items c.in-Some.name c.in-Some.part c.in_ok-part.part
          _ refl c.in_ok-part.ensures c.in_ok-push.ensures.items
          ∙ (ap (λ xs. members_before c.loop-name.changed.items (in_keywords rules_of at (members_assembled xs))) (sym here) ∙ c.loop-name.invariant.value);
    }

pub change_keywords-returns : goal.change_keywords-returns
unfolding in_keywords
change_keywords-returns t c =
    let at = c.args.transform.now in
    let done = c.loop-name.changed.items in
    let none : length c.loop-name.name-iterator.rest.items ≡ 0 = search rules in
    let ends = nil_from_length c.loop-name.name-iterator.rest.items none in
    IfOk-weaker c.of.result _ _
    (λ m h. h ∙ (sym (before_none done)
    ∙ (ap (λ xs. members_before done (in_keywords rules_of at (members_assembled xs))) (sym ends) ∙ c.loop-name.invariant.value)))
    c.of.ensures

pub change_names-change_schema-requires : goal.change_names-change_schema-requires
change_names-change_schema-requires t c =
    let deep = ap (λ xs. members_depth (members_assembled xs)) c.in-Some.ensures.steps.0 in
    (omega (arith, deep, c.loop-name.invariant.deep, c.decreases), tt)

pub change_names-loop-name-preserved : goal.change_names-loop-name-preserved
change_names-loop-name-preserved t c =
    let at = c.args.transform.now in
    let here = c.in-Some.ensures.steps.0 in
    let deep = ap (λ xs. members_depth (members_assembled xs)) here in
    record {
      deep = omega (arith, deep, c.loop-name.invariant.deep);
      value =
          name_taken at c.loop-name.changed.items c.push.new.self.items c.next.new.self.rest.items c.in-Some.name c.in-Some.part c.in_ok-part.part
          c.in_ok-part.ensures c.in_ok-push.ensures.items
          ∙ (ap (λ xs. members_before c.loop-name.changed.items (in_names rules_of at (members_assembled xs))) (sym here) ∙ c.loop-name.invariant.value);
    }

pub change_names-returns : goal.change_names-returns
unfolding in_names
change_names-returns t c =
    let at = c.args.transform.now in
    let done = c.loop-name.changed.items in
    let none : length c.loop-name.name-iterator.rest.items ≡ 0 = search rules in
    let ends = nil_from_length c.loop-name.name-iterator.rest.items none in
    seen_object c.loop-name.changed ∙ ap object (sym (before_none done)
    ∙ (ap (λ xs. members_before done (in_names rules_of at (members_assembled xs))) (sym ends) ∙ c.loop-name.invariant.value))

pub change_items-change_schema-requires : goal.change_items-change_schema-requires
change_items-change_schema-requires t c =
    let deep = ap (λ xs. items_depth (items_assembled xs)) c.in-Some.ensures.steps.0 in
    (omega (arith, deep, c.loop-part.invariant.deep, c.decreases), tt)

pub change_items-loop-part-preserved : goal.change_items-loop-part-preserved
change_items-loop-part-preserved t c =
    let at = c.args.transform.now in
    let here = c.in-Some.ensures.steps.0 in
    let deep = ap (λ xs. items_depth (items_assembled xs)) here in
    record {
      deep = omega (arith, deep, c.loop-part.invariant.deep);
      value =
          item_taken at c.loop-part.changed.items c.push.new.self.items c.next.new.self.rest.items c.in-Some.part c.in_ok-part.part
          c.in_ok-part.ensures c.in_ok-push.ensures.items
          ∙ (ap (λ xs. items_before c.loop-part.changed.items (in_items rules_of at (items_assembled xs))) (sym here) ∙ c.loop-part.invariant.value);
    }

pub change_items-returns : goal.change_items-returns
unfolding in_items
change_items-returns t c =
    let at = c.args.transform.now in
    let done = c.loop-part.changed.items in
    let none : length c.loop-part.part-iterator.rest.items ≡ 0 = search rules in
    let ends = nil_from_length c.loop-part.part-iterator.rest.items none in
    seen_list c.loop-part.changed ∙ ap array (sym (none_behind done)
    ∙ (ap (λ xs. items_before done (in_items rules_of at (items_assembled xs))) (sym ends) ∙ c.loop-part.invariant.value))

pub change_member-returns-then-is_scalar : goal.change_member-returns-then-is_scalar
change_member-returns-then-is_scalar t c =
    let d = assembled_view c.args.part in
    scalar_stays c.args.transform.now d (c.is_scalar.ensures c.if-is_scalar.true) (changed_place c.args.transform.now c.args.name.now d)
