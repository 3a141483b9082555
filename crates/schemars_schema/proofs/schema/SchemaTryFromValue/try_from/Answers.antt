use Rattle.std.proofs.Common.{refl}
use Rattle.schemars_schema.proofs.schema.SchemaTryFromValue.try_from.Goals as goal

pub returns-then-is_schema : goal.returns-then-is_schema
returns-then-is_schema c = refl
