use Rattle.std.proofs.Common.{rules}
use Rattle.schemars_types.proofs.table.Types.reserve.Goals as goal

pub returns-in-Some-clause-number : goal.returns-in-Some-clause-number
returns-in-Some-clause-number c = search rules
