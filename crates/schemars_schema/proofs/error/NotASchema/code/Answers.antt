use Rattle.std.proofs.Common.{refl}
use Rattle.schemars_schema.proofs.error.NotASchema.code.Goals as goal

pub returns : goal.returns
returns c = refl
