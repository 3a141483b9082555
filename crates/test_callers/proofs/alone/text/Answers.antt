use Rattle.schemars_impls.specs.Dictionary.{alone}
use Rattle.test_callers.proofs.Containers.{alone_holds}
use Rattle.test_callers.proofs.alone.text.Goals as goal

pub returns : goal.returns
unfolding alone
returns c = alone_holds _ c.in_ok-r.ensures
