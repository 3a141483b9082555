use Rattle.std.proofs.Common.{rules}
use Rattle.schemars_documents.proofs.shape.choices.result_template.Goals as goal

pub returns : goal.returns
returns c = search rules
