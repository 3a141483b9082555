use Rattle.std.proofs.Common.{Some, ap, ◌∙◌, sym}
use Rattle.schemars_builders.proofs.Words.{view, view-Object, accepts_everything}
use Rattle.schemars_builders.proofs.Nulls.{empty_accepts}
use Rattle.schemars_builders.proofs.null.accepts_everything.Goals as goal

pub returns-in-Object : goal.returns-in-Object
returns-in-Object c =
    empty_accepts c.is_empty.result c.in-Object.members.entries c.is_empty.ensures.0 c.is_empty.ensures.1
    ∙ ap (λ d. accepts_everything (Some d)) (sym (ap view c.in-Object.is ∙ view-Object c.in-Object.members))
