use Rattle.std.proofs.Common.{Some, ap, ◌∙◌, sym}
use Rattle.schemars_render.proofs.Words.{view, view-Object, accepts_everything, empty_accepts}
use Rattle.schemars_render.proofs.nulls.accepts_everything.Goals as goal

pub returns-in-Object : goal.returns-in-Object
returns-in-Object c =
    empty_accepts c.is_empty.result c.in-Object.members.entries c.is_empty.ensures.0 c.is_empty.ensures.1
    ∙ ap (λ d. accepts_everything (Some d)) (sym (ap view c.in-Object.is ∙ view-Object c.in-Object.members))
