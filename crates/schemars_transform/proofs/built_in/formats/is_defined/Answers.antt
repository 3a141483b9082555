use Rattle.std.proofs.Common.{rules}
use Rattle.schemars_transform.proofs.built_in.formats.is_defined.Goals as goal

pub returns-in-Missing : goal.returns-in-Missing
returns-in-Missing c = search rules
