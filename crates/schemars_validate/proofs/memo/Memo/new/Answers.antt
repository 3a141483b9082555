-- An empty memo.
use Rattle.schemars_validate.proofs.Keeping.{nothing}
use Rattle.schemars_validate.proofs.memo.Memo.new.Goals as goal

pub returns : goal.returns
returns c = nothing c.new.result c.new-2.result c.new.ensures.items c.new-2.ensures.items
