-- One reference more.
use Rattle.std.proofs.Common.{arith, subst, IfSome}
use Rattle.schemars_validate.proofs.Words.{view}
use Rattle.schemars_validate.specs.Chains.{LeadsOn}
use Rattle.schemars_validate.proofs.Chaining.{ends_later}
use Rattle.schemars_validate.proofs.chains.end_of_chain.Goals as goal

pub loop-last-preserved : goal.loop-last-preserved
loop-last-preserved c =
    let doc = view c.args.document.now in
    let leads = subst (λ o. IfSome o (λ n. LeadsOn c.args.dialect doc c.loop-last.last.name.now n.now)) c.in-Some.is c.in_ok-name.ensures in
    ends_later c.args.dialect doc c.args.first.now c.args.left c.loop-last.last.name.now c.loop-last.last.left c.in-Some.name.now
    (omega (arith, c.loop-last-test.true)) c.loop-last.invariant leads
