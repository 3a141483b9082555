use Rattle.std.proofs.Common.{refl}
use Rattle.schemars_transform.proofs.gen_transform.GenTransform.is_own.Goals as goal

pub returns-in-Own : goal.returns-in-Own
returns-in-Own g c = rw c.in-Own.is refl
