use Rattle.std.proofs.Common.{◌≡◌, ◌∙◌, ◌++◌, ◌-◌, suc, sym, ap, map, arith}
use Rattle.schemars_plain.proofs.Words.{on_ok_weaker, field_of, fields_within, as_said}
use Rattle.schemars_plain.proofs.Said.{no_steps, no_row, some_row, part_step}
use Rattle.schemars_plain.proofs.fields.+fields.Goals as goal

pub add_fields-loop-part-preserved : goal.add_fields-loop-part-preserved
add_fields-loop-part-preserved t c =
    part_step _ _ c.args.types.now (fields_within c.args.types.now c.args.steps) c.deref-part-items.result.now c.loop-part.part-index
    c.without_options.result _ _ c.loop-part-test.true c.without_options.ensures c.in_ok-add_row.ensures c.loop-part.invariant

pub add_row-returns-then-steps-eq0 : goal.add_row-returns-then-steps-eq0
add_row-returns-then-steps-eq0 t c = no_steps _ c.args.types.now c.args.steps c.args.n c.if-steps-eq0.true

pub add_row-returns-in-Some : goal.add_row-returns-in-Some
add_row-returns-in-Some t c =
    let one : suc (c.args.steps - 1) ≡ c.args.steps = omega arith in
    on_ok_weaker c.add_shape.result
    (λ added. added ∙ ap (λ fs. map as_said (map (λ f. field_of f.now) c.args.found.now.items) ++ map as_said fs)
    (sym (some_row c.args.types.now c.args.steps (c.args.steps - 1) c.args.n _ one c.in-Some.ensures)))
    c.add_shape.ensures

pub add_row-returns-in-None : goal.add_row-returns-in-None
add_row-returns-in-None t c =
    let one : suc (c.args.steps - 1) ≡ c.args.steps = omega arith in
    no_row _ c.args.types.now c.args.steps (c.args.steps - 1) c.args.n one c.in-None.ensures
