use Rattle.std.proofs.Common.{rules}
use Rattle.schemars_builders.proofs.null.null_in_type.Goals as goal

pub returns : goal.returns
returns c = search rules
