use Rattle.schemars_laws.proofs.Laws.{replace_bool_schemas-law}
use Rattle.schemars_laws.proofs.built_in.replace_bool_schemas.Goals as goal

pub returns : goal.returns
returns c = λ t d. replace_bool_schemas-law t d
