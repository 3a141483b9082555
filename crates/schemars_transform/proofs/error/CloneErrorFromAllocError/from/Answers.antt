use Rattle.std.proofs.Common.{refl}
use Rattle.schemars_transform.proofs.error.CloneErrorFromAllocError.from.Goals as goal

pub returns : goal.returns
returns c = refl
