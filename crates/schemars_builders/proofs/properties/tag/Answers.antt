use Rattle.std.proofs.Common.{rules}
use Rattle.schemars_builders.proofs.properties.tag.Goals as goal

pub returns : goal.returns
returns c = search rules
