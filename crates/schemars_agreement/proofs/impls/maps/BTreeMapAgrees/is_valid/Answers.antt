use Rattle.std.proofs.Common.{refl, arith}
use Rattle.std.proofs.lemmas.Grind.{common_steps}
use Rattle.schemars_written.proofs.Loops.{AllUpTo-start, AllUpTo-more, AllUpTo-all}
use Rattle.schemars_agreement.proofs.impls.maps.BTreeMapAgrees.is_valid.Goals as goal

pub loop-key-init : goal.loop-key-init
loop-key-init g c = AllUpTo-start (λ e. g.K.Agrees.valid e.0 × g.T.Agrees.valid e.1) _ _ c.into_iter-key-iterator.ensures.into_iter_gives.0

pub loop-key-preserved : goal.loop-key-preserved
loop-key-preserved g c =
    AllUpTo-more (λ e. g.K.Agrees.valid e.0 × g.T.Agrees.valid e.1) _ _ _ (c.in-Some.key.now, c.in-Some.value.now) c.loop-key.invariant
    c.in-Some.ensures.steps (c.if-not-is_valid.ensures.passes refl, c.if-not-is_valid-2.ensures.passes refl)

pub returns-clause-passes : goal.returns-clause-passes
returns-clause-passes g c = λ yes.
    AllUpTo-all (λ e. g.K.Agrees.valid e.0 × g.T.Agrees.valid e.1) _ _ c.loop-key.invariant (grind (arith, common_steps, c.in-None.ensures.steps.0))
