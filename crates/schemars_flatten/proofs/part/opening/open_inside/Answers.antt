use Rattle.std.proofs.Common.{◌∙◌}
use Rattle.schemars_flatten.proofs.Words.{on_ok_weaker}
use Rattle.schemars_flatten.proofs.Levels.{around_opened}
use Rattle.schemars_flatten.proofs.part.opening.open_inside.Goals as goal

pub returns : goal.returns
returns c = on_ok_weaker c.rewrite.result (λ h. h ∙ around_opened c.args.schema.now) c.rewrite.ensures
