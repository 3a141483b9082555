use Rattle.std.proofs.Common.{refl}
use Rattle.test_callers.proofs.Words.{alone, map_row}
use Rattle.test_callers.proofs.Containers.{two_holds}
use Rattle.test_callers.proofs.maps.tree_map_from_bytes.Goals as goal

pub returns : goal.returns
unfolding map_row alone
returns c = two_holds _ _ _ c.in_ok-r.ensures refl refl refl
