use Rattle.std.proofs.Common.{refl}
use Rattle.test_callers.proofs.Words.{alone}
use Rattle.test_callers.proofs.Containers.{one_holds}
use Rattle.test_callers.proofs.choices.range_of_bytes.Goals as goal

pub returns : goal.returns
unfolding alone
returns c = one_holds _ _ c.in_ok-r.ensures refl
