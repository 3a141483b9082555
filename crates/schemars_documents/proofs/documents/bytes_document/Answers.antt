use Rattle.std.proofs.Common.{rules}
use Rattle.schemars_documents.proofs.documents.bytes_document.Goals as goal

pub returns : goal.returns
returns c = search rules
