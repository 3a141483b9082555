use Rattle.std.proofs.Common.{sym, ap, ◌∙◌}
use Rattle.schemars_transform.proofs.Words.{is_idle}
use Rattle.schemars_transform.proofs.IdleTransforms.{idle_member}
use Rattle.schemars_transform.proofs.apply.apply_one.Goals as goal

pub returns-then-is_idle-clause-step : goal.returns-then-is_idle-clause-step
returns-then-is_idle-clause-step g c =
    idle_member g.O.Transform.makes c.args.transform.now c.args.schema.now
    (ap (is_idle c.args.transform.now) (sym c.known_needs-known.ensures.result) ∙ (sym c.is_idle.ensures ∙ c.if-is_idle.true))
