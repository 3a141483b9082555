use Rattle.schemars_laws.proofs.Laws.{remove_ref_siblings-law}
use Rattle.schemars_laws.proofs.Alone.{references-alone}
use Rattle.schemars_laws.proofs.built_in.remove_ref_siblings.Goals as goal

pub returns-clause-moves : goal.returns-clause-moves
returns-clause-moves c = λ d. remove_ref_siblings-law d

pub returns-clause-alone : goal.returns-clause-alone
returns-clause-alone c = references-alone
