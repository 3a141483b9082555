use Rattle.std.proofs.Common.{arith}
use Rattle.schemars_schema.proofs.Words.{common_steps}
use Rattle.serde_json.specs.declared.value.Value.{the_lemmas}
use Rattle.schemars_schema.proofs.schema.members_for_truth_value.Goals as goal

pub returns : goal.returns
returns c = grind (arith, common_steps, the_lemmas)
