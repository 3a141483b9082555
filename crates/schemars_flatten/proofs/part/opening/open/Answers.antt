use Rattle.std.proofs.Common.{◌∙◌}
use Rattle.schemars_flatten.proofs.Words.{on_ok_weaker}
use Rattle.schemars_flatten.proofs.Levels.{below_opened}
use Rattle.schemars_flatten.proofs.part.opening.open.Goals as goal

pub returns : goal.returns
returns c = on_ok_weaker c.rewrite.result (λ h. h ∙ below_opened c.args.schema.now) c.rewrite.ensures
