use Rattle.std.proofs.Common.{refl}
use Rattle.schemars_transform.proofs.built_in.nullable.AddNullableDefault.default.Goals as goal

pub returns : goal.returns
returns c = refl
