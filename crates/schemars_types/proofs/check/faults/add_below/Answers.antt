use Rattle.std.proofs.Common.{◌≡◌, ◌∙◌, ◌+◌, ◌-◌, ◌++◌, suc, length, ap, sym, append-nil, arith}
use Rattle.schemars_types.proofs.Words.{below, below_within}
use Rattle.schemars_types.proofs.EdgeLemmas.{below_joins, none_joins}
use Rattle.schemars_types.proofs.check.faults.add_below.Goals as goal

pub returns-in_default : goal.returns-in_default
returns-in_default c =
    let rows = c.args.types.now in
    let left = length rows - c.loop-step._step in
    let rest : c.loop-step._step + left ≡ length rows = omega (arith, c.loop-step-test.true, c.len-step-end.ensures.len) in
    none_joins c.loop-step.rows.items rows left c.loop-step.at (c.args.rows.now.items ++ below rows c.args.n)
    c.in_default.ensures (c.loop-step.invariant left rest)

pub loop-step-preserved : goal.loop-step-preserved
loop-step-preserved c = λ left rest.
    let rows = c.args.types.now in
    ap (λ found. found ++ below_within rows left c.in-Some.inner) c.in_ok-push.ensures.items
    ∙ below_joins c.loop-step.rows.items rows left c.loop-step.at c.in-Some.inner (c.args.rows.now.items ++ below rows c.args.n)
    c.in-Some.ensures (c.loop-step.invariant (suc left) (omega (arith, rest)))

pub returns : goal.returns
returns c =
    let rows = c.args.types.now in
    let whole : c.loop-step._step + 0 ≡ length rows =
    omega (arith, c.loop-step-test.false, c.loop-step.auto._step-end, c.len-step-end.ensures.len) in
    sym (append-nil c.loop-step.rows.items) ∙ c.loop-step.invariant 0 whole
