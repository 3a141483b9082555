use Rattle.std.proofs.Common.{refl}
use Rattle.test_callers.proofs.Words.{alone, map_row}
use Rattle.test_callers.proofs.Containers.{twice_holds}
use Rattle.test_callers.proofs.maps.tree_map_between_bytes.Goals as goal

pub returns : goal.returns
unfolding map_row alone
returns c = twice_holds _ _ c.in_ok-r.ensures refl
