-- What is idle makes nothing of any schema with these needs.
use Rattle.std.proofs.Common.{sym, ap, ◌∙◌}
use Rattle.schemars_transform.proofs.Words.{are_idle}
use Rattle.schemars_transform.proofs.IdleTransforms.{idle_made}
use Rattle.schemars_transform.proofs.apply.are_idle.Goals as goal

pub returns-clause-unchanged : goal.returns-clause-unchanged
returns-clause-unchanged g c = λ is d needs.
    idle_made c.args.transforms.now d (ap (are_idle c.args.transforms.now) needs ∙ (sym c.all_idle.ensures ∙ is))
