use Rattle.std.proofs.Common.{rules}
use Rattle.schemars_documents.proofs.integers.non_zero_document.Goals as goal

pub returns : goal.returns
returns c = search rules
