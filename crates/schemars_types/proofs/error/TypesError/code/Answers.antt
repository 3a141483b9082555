use Rattle.std.proofs.Common.{rules}
use Rattle.schemars_types.proofs.error.TypesError.code.Goals as goal

pub returns-in-AlreadyDefined : goal.returns-in-AlreadyDefined
returns-in-AlreadyDefined c = search rules
