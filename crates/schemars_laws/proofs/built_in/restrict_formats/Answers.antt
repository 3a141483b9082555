use Rattle.schemars_laws.proofs.Laws.{restrict_formats-law}
use Rattle.schemars_laws.proofs.built_in.restrict_formats.Goals as goal

pub returns : goal.returns
returns c = λ t d. restrict_formats-law t d
