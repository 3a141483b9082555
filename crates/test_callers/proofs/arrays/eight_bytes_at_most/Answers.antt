use Rattle.std.proofs.Common.{refl}
use Rattle.test_callers.proofs.Words.{alone, digits}
use Rattle.test_callers.proofs.Containers.{one_holds}
use Rattle.test_callers.proofs.arrays.eight_bytes_at_most.Goals as goal

pub returns : goal.returns
unfolding digits alone
returns c = one_holds _ _ c.in_ok-r.ensures refl
