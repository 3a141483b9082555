use Rattle.std.proofs.Common.{refl}
use Rattle.test_callers.proofs.Words.{alone, digits}
use Rattle.test_callers.proofs.Containers.{array_holds}
use Rattle.test_callers.proofs.arrays.three_bytes.Goals as goal

pub returns : goal.returns
unfolding digits alone
returns c = array_holds _ c.in_ok-r.ensures refl refl
