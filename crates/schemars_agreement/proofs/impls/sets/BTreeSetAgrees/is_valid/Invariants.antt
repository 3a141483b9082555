-- The items before those that are left are valid.
use Rattle.schemars_written.proofs.Loops.{AllUpTo}
use Rattle.schemars_agreement.proofs.impls.sets.BTreeSetAgrees.is_valid.Given as goal

abbrev pub invariant-loop-item : goal.invariant-loop-item
invariant-loop-item g l = AllUpTo g.T.Agrees.valid l.self.keys l.item-iterator
