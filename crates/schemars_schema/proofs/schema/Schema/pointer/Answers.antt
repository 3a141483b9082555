use Rattle.std.proofs.Common.{rules}
use Rattle.schemars_schema.proofs.schema.Schema.pointer.Goals as goal

pub returns-in-Some : goal.returns-in-Some
returns-in-Some c = search rules
