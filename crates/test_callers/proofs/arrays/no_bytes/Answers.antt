use Rattle.schemars_impls.specs.Dictionary.{alone}
use Rattle.test_callers.proofs.Containers.{empty_holds}
use Rattle.test_callers.proofs.arrays.no_bytes.Goals as goal

pub returns : goal.returns
unfolding alone
returns c = empty_holds _ c.in_ok-r.ensures
