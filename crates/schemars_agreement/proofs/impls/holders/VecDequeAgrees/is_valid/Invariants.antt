-- Where what is left is valid, so is the whole.
use Rattle.std.specs.Prelude.{All}
use Rattle.std.specs.VecDeque.Iter.{deque_iter_rest}
use Rattle.schemars_agreement.proofs.impls.holders.VecDequeAgrees.is_valid.Given as goal

abbrev pub invariant-loop-item : goal.invariant-loop-item
invariant-loop-item g l = All g.T.Agrees.valid (deque_iter_rest l.item-iterator) → All g.T.Agrees.valid l.self.items
