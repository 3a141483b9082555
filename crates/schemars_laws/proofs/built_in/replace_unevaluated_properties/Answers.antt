use Rattle.schemars_laws.proofs.Laws.{replace_unevaluated_properties-law}
use Rattle.schemars_laws.proofs.built_in.replace_unevaluated_properties.Goals as goal

pub returns : goal.returns
returns c = λ d. replace_unevaluated_properties-law d
