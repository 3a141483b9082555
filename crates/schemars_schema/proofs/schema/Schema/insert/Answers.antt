use Rattle.std.proofs.Common.{arith}
use Rattle.schemars_schema.proofs.Words.{common_steps}
use Rattle.serde_json.specs.declared.value.Value.{the_lemmas}
use Rattle.schemars_schema.proofs.schema.Schema.insert.Goals as goal

pub returns-in-Object-clause-old : goal.returns-in-Object-clause-old
returns-in-Object-clause-old c = grind (arith, common_steps, the_lemmas)
