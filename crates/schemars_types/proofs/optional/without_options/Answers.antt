use Rattle.std.proofs.Common.{◌≡◌, ◌∙◌, ◌+◌, ◌-◌, suc, length, sym, arith}
use Rattle.schemars_types.proofs.Options.{stops, goes}
use Rattle.schemars_types.proofs.optional.without_options.Goals as goal

pub returns-in_default : goal.returns-in_default
returns-in_default c =
    let rows = c.args.types.now in
    let left = length rows - c.loop-step._step in
    let rest : c.loop-step._step + left ≡ length rows = omega (arith, c.loop-step-test.true, c.len-step-end.ensures) in
    sym (stops rows left c.loop-step.at (sym c.in_default.ensures)) ∙ c.loop-step.invariant left rest

pub loop-step-preserved : goal.loop-step-preserved
loop-step-preserved c = λ left rest.
    let rows = c.args.types.now in
    sym (goes rows left c.loop-step.at c.in-Some.inner (sym c.in-Some.ensures))
    ∙ c.loop-step.invariant (suc left) (omega (arith, rest))

pub returns : goal.returns
returns c =
    let rows = c.args.types.now in
    let whole : c.loop-step._step + 0 ≡ length rows =
    omega (arith, c.loop-step-test.false, c.loop-step.auto._step-end, c.len-step-end.ensures) in
    c.loop-step.invariant 0 whole
