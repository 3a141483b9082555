use Rattle.std.proofs.Common.{arith}
use Rattle.schemars_types.proofs.Words.{MatchOption-at_some}
use Rattle.schemars_types.proofs.Names.{differ_past}
use Rattle.schemars_types.proofs.check.faults.first_repeated.Goals as goal

pub returns-in-Some : goal.returns-in-Some
returns-in-Some c = (c.loop-n.invariant, MatchOption-at_some _ _ c.in-Some.name c.in-Some.is c.in_ok-name.ensures)

pub returns : goal.returns
returns c = λ n high. differ_past c.args.types.now c.loop-n.n (omega (arith, c.len-n-end.ensures.len)) n
    (λ below. c.loop-n.invariant n high below)
