use Rattle.schemars_laws.proofs.Laws.{add_nullable-law}
use Rattle.schemars_laws.proofs.built_in.add_nullable.Goals as goal

pub returns : goal.returns
returns c = λ d. add_nullable-law d
