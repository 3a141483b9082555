-- Where there are no titles the schema stays.
use Rattle.std.proofs.Common.{sym, ap}
use Rattle.schemars_documents.proofs.Words.{titled, node_view}
use Rattle.schemars_documents.proofs.shape.enums.titled.Goals as goal

pub returns : goal.returns
returns c = sym (ap (λ b. titled b c.args.name.now (node_view c.args.node)) c.if-titles.false)
