use Rattle.std.proofs.Common.{rules}
use Rattle.schemars_schema.proofs.schema.Schema.is_schema.Goals as goal

pub returns-else-is_object : goal.returns-else-is_object
returns-else-is_object c = search rules
