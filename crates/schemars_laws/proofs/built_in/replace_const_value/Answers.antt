use Rattle.schemars_laws.proofs.Laws.{replace_const_value-law}
use Rattle.schemars_laws.proofs.built_in.replace_const_value.Goals as goal

pub returns : goal.returns
returns c = λ d. replace_const_value-law d
