use Rattle.schemars_laws.proofs.Laws.{replace_prefix_items-law}
use Rattle.schemars_laws.proofs.built_in.replace_prefix_items.Goals as goal

pub returns : goal.returns
returns c = λ d. replace_prefix_items-law d
