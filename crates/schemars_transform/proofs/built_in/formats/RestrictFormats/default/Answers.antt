use Rattle.std.proofs.Common.{refl}
use Rattle.schemars_transform.proofs.built_in.formats.RestrictFormats.default.Goals as goal

pub returns-clause-infers : goal.returns-clause-infers
returns-clause-infers c = refl
