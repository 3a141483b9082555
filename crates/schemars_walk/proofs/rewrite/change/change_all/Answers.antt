use Rattle.std.proofs.Common.{◌∙◌}
use Rattle.schemars_walk.proofs.Words.{on_ok_weaker}
use Rattle.schemars_walk.proofs.Changes.{same_everywhere}
use Rattle.schemars_walk.proofs.rewrite.change.change_all.Goals as goal

pub returns : goal.returns
returns g c =
    on_ok_weaker c.rewrite.result (λ h. h ∙ same_everywhere (λ e. g.C.Change.changed e.change) (record { change = c.args.change })
    c.args.schema.now) c.rewrite.ensures
