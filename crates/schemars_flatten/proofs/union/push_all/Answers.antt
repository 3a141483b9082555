-- One list stands behind the other.
use Rattle.schemars_flatten.proofs.PutIn.{appended_to}
use Rattle.schemars_flatten.proofs.union.push_all.Goals as goal

pub returns : goal.returns
returns c = appended_to c.append.result c.args.items.now.items c.args.more.items c.append.new.self.items c.append.ensures.items
