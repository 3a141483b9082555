use Rattle.schemars_laws.proofs.Laws.{set_single_example-law}
use Rattle.schemars_laws.proofs.built_in.set_single_example.Goals as goal

pub returns : goal.returns
returns c = λ d. set_single_example-law d
