use Rattle.std.proofs.Common.{rules}
use Rattle.schemars_templates.proofs.finished.make_root.Goals as goal

pub returns-in_ok-set-2 : goal.returns-in_ok-set-2
returns-in_ok-set-2 c = search rules
