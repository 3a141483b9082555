use Rattle.std.proofs.Common.{arith}
use Rattle.schemars_plain.proofs.Words.{common_steps}
use Rattle.schemars_plain.proofs.Said.{no_name_said}
use Rattle.schemars_plain.proofs.fields.lacks.Goals as goal

pub returns : goal.returns
returns c = grind (arith, common_steps, no_name_said)
