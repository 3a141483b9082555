use Rattle.std.proofs.Common.{refl}
use Rattle.schemars_written.proofs.Loops.{AllUpTo-more}
use Rattle.schemars_agreement.proofs.impls.sets.BTreeSetAgrees.is_valid.Goals as goal

pub loop-item-preserved : goal.loop-item-preserved
loop-item-preserved g c = AllUpTo-more g.T.Agrees.valid _ _ _ c.in-Some.item.now c.loop-item.invariant c.in-Some.ensures.steps (c.if-not-is_valid.ensures.passes refl)
