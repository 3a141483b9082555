use Rattle.std.proofs.Common.{rules}
use Rattle.schemars_schema.proofs.schema.Schema.remove.Goals as goal

pub returns-in-Some-clause-removed : goal.returns-in-Some-clause-removed
returns-in-Some-clause-removed c = search rules
