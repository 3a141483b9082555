use Rattle.std.proofs.Common.{rules}
use Rattle.schemars_documents.proofs.shape.keyed.options_template.Goals as goal

pub returns : goal.returns
returns c = search rules
