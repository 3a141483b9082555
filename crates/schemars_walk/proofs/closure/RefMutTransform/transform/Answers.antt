use Rattle.std.proofs.Common.{rules}
use Rattle.schemars_walk.proofs.closure.RefMutTransform.transform.Goals as goal

pub returns : goal.returns
returns g c = search rules
