-- The row is asked so many steps deep as the meaning asks for.
use Rattle.std.proofs.Common.{ap}
use Rattle.schemars_belonging.proofs.Words.{view, asked, has}
use Rattle.schemars_belonging.proofs.Rows.{answered}
use Rattle.schemars_belonging.proofs.steps.belongs.Goals as goal

pub returns : goal.returns
returns g c =
    let a = asked c.args.types.now c.args.contract (g.P.Patterns.reading c.args.patterns.now) in
    answered c.row.result _ _ (ap (λ k. has a k c.args.n (view c.args.value.now)) c.in-Some.ensures) c.row.ensures
