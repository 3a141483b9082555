use Rattle.std.proofs.Common.{refl}
use Rattle.test_callers.proofs.Words.{alone}
use Rattle.test_callers.proofs.Containers.{two_holds}
use Rattle.test_callers.proofs.choices.result_of_byte.Goals as goal

pub returns : goal.returns
unfolding alone
returns c = two_holds _ _ _ c.in_ok-r.ensures refl refl refl
