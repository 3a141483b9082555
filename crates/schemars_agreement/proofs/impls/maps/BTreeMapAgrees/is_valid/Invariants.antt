use Rattle.schemars_written.proofs.Loops.{AllUpTo}
use Rattle.schemars_agreement.proofs.impls.maps.BTreeMapAgrees.is_valid.Given as goal

abbrev pub invariant-loop-key : goal.invariant-loop-key
invariant-loop-key g l = AllUpTo (λ e. g.K.Agrees.valid e.0 × g.T.Agrees.valid e.1) l.self.entries l.key-iterator
