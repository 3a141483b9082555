use Rattle.std.proofs.Common.{refl}
use Rattle.schemars_walk.proofs.transform.TransformErrorFromAllocError.from.Goals as goal

pub returns : goal.returns
returns c = refl
