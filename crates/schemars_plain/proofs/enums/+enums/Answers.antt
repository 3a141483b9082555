use Rattle.std.proofs.Common.{◌≡◌, ◌∙◌, ◌++◌, ◌-◌, suc, sym, ap, arith}
use Rattle.schemars_plain.proofs.Words.{on_ok_weaker}
use Rattle.schemars_plain.proofs.EnumsWithin.{no_steps, no_row, some_row}
use Rattle.schemars_plain.proofs.enums.+enums.Goals as goal

pub add_row_enums-returns-then-steps-eq0 : goal.add_row_enums-returns-then-steps-eq0
add_row_enums-returns-then-steps-eq0 t c =
    no_steps _ c.args.types.now c.args.steps c.args.n c.if-steps-eq0.true

pub add_row_enums-returns-in-Some : goal.add_row_enums-returns-in-Some
add_row_enums-returns-in-Some t c =
    let one : suc (c.args.steps - 1) ≡ c.args.steps = omega arith in
    on_ok_weaker c.add_shape_enums.result
    (λ added. added ∙ ap (λ ns. c.args.found.now.items ++ ns)
    (sym (some_row c.args.types.now c.args.steps (c.args.steps - 1) c.args.n _ one c.in-Some.ensures)))
    c.add_shape_enums.ensures

pub add_row_enums-returns-in-None : goal.add_row_enums-returns-in-None
add_row_enums-returns-in-None t c =
    let one : suc (c.args.steps - 1) ≡ c.args.steps = omega arith in
    no_row _ c.args.types.now c.args.steps (c.args.steps - 1) c.args.n one c.in-None.ensures
