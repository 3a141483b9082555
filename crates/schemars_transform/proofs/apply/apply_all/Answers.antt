-- Where all are idle, nothing is what they do.
use Rattle.std.proofs.Common.{sym, ap, ◌∙◌}
use Rattle.schemars_transform.proofs.Words.{needs_of, are_idle}
use Rattle.schemars_transform.proofs.IdleTransforms.{idle_list}
use Rattle.schemars_transform.proofs.apply.apply_all.Goals as goal

pub returns-then-are_idle : goal.returns-then-are_idle
returns-then-are_idle g c =
    let transforms = ap (λ ts. are_idle ts c.needs_of-needs.result) c.deref-2.ensures.value in
    let needs = ap (are_idle c.args.transforms.now.items) c.needs_of-needs.ensures in
    idle_list g.O.Transform.makes c.args.transforms.now.items c.args.schema.now
    (sym (transforms ∙ needs) ∙ (sym c.are_idle.ensures.value ∙ c.if-are_idle.true))
