use Rattle.std.proofs.Common.{◌∙◌}
use Rattle.schemars_definitions.proofs.Words.{definition_in}
use Rattle.schemars_definitions.proofs.ByName.{has_name-by_name}
use Rattle.schemars_definitions.proofs.by_name.has_name.Goals as goal

pub returns : goal.returns
returns c = c.contains_key.ensures ∙ has_name-by_name definition_in c.args.name.now c.args.definitions.now.entries
