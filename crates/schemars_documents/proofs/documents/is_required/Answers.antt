use Rattle.std.proofs.Common.{rules}
use Rattle.schemars_documents.proofs.documents.is_required.Goals as goal

pub returns-in-Deserialize : goal.returns-in-Deserialize
returns-in-Deserialize c = search rules
