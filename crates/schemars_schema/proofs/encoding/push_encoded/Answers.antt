use Rattle.std.proofs.Common.{arith}
use Rattle.std.proofs.lemmas.Grind.{common_steps}
use Rattle.schemars_schema.proofs.encoding.push_encoded.Goals as goal

pub returns-in_ok-push-in_default-2-2 : goal.returns-in_ok-push-in_default-2-2
returns-in_ok-push-in_default-2-2 c = grind (arith, common_steps)
