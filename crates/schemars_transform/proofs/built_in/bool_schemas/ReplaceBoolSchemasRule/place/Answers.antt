use Rattle.std.proofs.Common.{rules}
use Rattle.schemars_transform.proofs.built_in.bool_schemas.ReplaceBoolSchemasRule.place.Goals as goal

pub returns-then-is_boolean : goal.returns-then-is_boolean
returns-then-is_boolean c = search rules
