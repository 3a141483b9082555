use Rattle.std.proofs.Common.{refl}
use Rattle.test_callers.proofs.Words.{alone}
use Rattle.test_callers.proofs.Containers.{pair_holds}
use Rattle.test_callers.proofs.arrays.tuple_of_byte_and_truth.Goals as goal

pub returns : goal.returns
unfolding alone
returns c = pair_holds _ _ c.in_ok-r.ensures refl refl refl
