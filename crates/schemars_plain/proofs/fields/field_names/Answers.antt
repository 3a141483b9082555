use Rattle.std.proofs.Common.{arith}
use Rattle.schemars_plain.proofs.Words.{common_steps}
use Rattle.schemars_plain.proofs.Said.{names_said}
use Rattle.schemars_plain.proofs.fields.field_names.Goals as goal

pub returns : goal.returns
returns c = grind (arith, common_steps, names_said)
