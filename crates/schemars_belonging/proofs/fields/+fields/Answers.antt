use Rattle.std.proofs.Common.{◌≡◌, ◌∙◌, ◌++◌, ◌-◌, suc, sym, ap, map, arith}
use Rattle.schemars_belonging.proofs.Words.{on_ok_weaker, fields_of, fields_within, given_of, field_given}
use Rattle.schemars_belonging.proofs.FieldMembers.{within_none, some_struct, no_struct, adds_none, part_step}
use Rattle.schemars_belonging.proofs.fields.+fields.Goals as goal

pub add_fields-loop-part-preserved : goal.add_fields-loop-part-preserved
add_fields-loop-part-preserved t c =
    part_step c.args.needed c.still_needed-still.result c.args.contract _ _ c.args.types.now (fields_within c.args.types.now c.args.steps)
    c.deref-part-items.result.now c.loop-part.part-index
    c.without_options-row.result _ _ c.loop-part-test.true c.still_needed-still.ensures c.without_options-row.ensures
    c.in_ok-add_row.ensures c.loop-part.invariant

pub add_row-returns-then-steps-eq0 : goal.add_row-returns-then-steps-eq0
add_row-returns-then-steps-eq0 t c =
    let rows = c.args.types.now in
    adds_none (field_given c.args.needed c.args.contract) _ (fields_within rows c.args.steps c.args.n)
    (ap (λ k. fields_within rows k c.args.n) c.if-steps-eq0.true ∙ within_none rows c.args.n)

pub add_row-returns-in-Some : goal.add_row-returns-in-Some
add_row-returns-in-Some t c =
    let rows = c.args.types.now in
    let one : suc (c.args.steps - 1) ≡ c.args.steps = omega arith in
    let same = some_struct rows c.args.steps (c.args.steps - 1) c.args.n (fields_of c.in-Some.fields.now) one c.in-Some.ensures in
    on_ok_weaker c.add_fields.result
    (λ added. added ∙ ap (λ fs. map given_of c.args.found.now.items ++ map (field_given c.args.needed c.args.contract) fs) (sym same))
    c.add_fields.ensures

pub add_row-returns-in-None : goal.add_row-returns-in-None
add_row-returns-in-None t c =
    let rows = c.args.types.now in
    let one : suc (c.args.steps - 1) ≡ c.args.steps = omega arith in
    adds_none (field_given c.args.needed c.args.contract) _ (fields_within rows c.args.steps c.args.n)
    (no_struct rows c.args.steps (c.args.steps - 1) c.args.n one c.in-None.ensures)
