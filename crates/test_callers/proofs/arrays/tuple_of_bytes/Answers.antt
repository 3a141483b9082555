use Rattle.std.proofs.Common.{refl}
use Rattle.test_callers.proofs.Words.{alone}
use Rattle.test_callers.proofs.Containers.{pair_twice_holds}
use Rattle.test_callers.proofs.arrays.tuple_of_bytes.Goals as goal

pub returns : goal.returns
unfolding alone
returns c = pair_twice_holds _ c.in_ok-r.ensures refl
