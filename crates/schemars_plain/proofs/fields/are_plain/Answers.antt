use Rattle.std.proofs.Common.{arith}
use Rattle.schemars_plain.proofs.Words.{common_steps}
use Rattle.schemars_plain.proofs.Said.{distinct_said, noted_said}
use Rattle.schemars_plain.proofs.fields.are_plain.Goals as goal

pub returns : goal.returns
returns c = grind (arith, common_steps, distinct_said, noted_said)
