use Rattle.std.proofs.Common.{rules}
use Rattle.schemars_builders.proofs.null.allow_null_in_object.Goals as goal

pub returns : goal.returns
returns c = search rules
