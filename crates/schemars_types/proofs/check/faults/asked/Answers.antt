-- What the shape asks itself, and the rows below what it flattens.
use Rattle.std.proofs.Common.{◌++◌, ◌∙◌, ap}
use Rattle.schemars_types.proofs.Words.{shape_of, asked_numbers, below_all}
use Rattle.schemars_types.proofs.check.faults.asked.Goals as goal

pub loop-n-init : goal.loop-n-init
loop-n-init c =
    let rows = c.args.types.now in
    let flattened = c.deref-n-items.result.now in
    ap (λ ns. ns ++ below_all rows flattened) c.in_ok-asked.ensures
    ∙ ap (λ ns. asked_numbers (shape_of c.args.shape.now) ++ below_all rows ns)
    (c.deref-n-items.ensures.value ∙ c.in_ok-flattened.ensures)
