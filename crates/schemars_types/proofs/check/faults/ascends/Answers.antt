use Rattle.std.proofs.Common.{arith}
use Rattle.schemars_types.proofs.Words.{OnTrue_at}
use Rattle.schemars_types.proofs.Ascending.{ascends_more, ascends_all}
use Rattle.schemars_types.proofs.check.faults.ascends.Goals as goal

pub loop-n-preserved : goal.loop-n-preserved
loop-n-preserved c =
    ascends_more c.args.kind c.args.types.now c.args.from c.loop-n.n c.loop-n.invariant
    (OnTrue_at c.if-not-leads.false c.in_ok-leads.ensures)

pub returns : goal.returns
returns c =
    ascends_all c.args.kind c.args.types.now c.args.from c.loop-n.n (omega (arith, c.len-n-end.ensures.len)) c.loop-n.invariant
