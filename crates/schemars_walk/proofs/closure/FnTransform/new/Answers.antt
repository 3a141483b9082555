use Rattle.std.proofs.Common.{refl}
use Rattle.schemars_walk.proofs.closure.FnTransform.new.Goals as goal

pub returns : goal.returns
returns g c = refl
