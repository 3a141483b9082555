use Rattle.std.proofs.Common.{refl}
use Rattle.schemars_transform.proofs.no_transform.NoTransformTransform.transform.Goals as goal

pub returns : goal.returns
returns c = (refl, refl, refl)
