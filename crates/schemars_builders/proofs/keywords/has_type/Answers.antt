use Rattle.std.proofs.Common.{ap}
use Rattle.schemars_builders.specs.Keywords.{names_type}
use Rattle.schemars_builders.proofs.keywords.has_type.Goals as goal

pub returns-in-None : goal.returns-in-None
returns-in-None c = ap (names_type c.args.name.now) c.in-None.ensures
