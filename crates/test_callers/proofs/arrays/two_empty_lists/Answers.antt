use Rattle.std.proofs.Common.{[], refl}
use Rattle.schemars_shapes.specs.Shape.{tuple}
use Rattle.test_callers.proofs.Words.{alone, array_row}
use Rattle.test_callers.proofs.Containers.{pair_twice_holds}
use Rattle.test_callers.proofs.arrays.two_empty_lists.Goals as goal

pub returns : goal.returns
unfolding array_row alone
returns c = pair_twice_holds (tuple []) c.in_ok-r.ensures refl
