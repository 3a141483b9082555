use Rattle.std.proofs.Common.{sym, ap, ◌∙◌}
use Rattle.schemars_parts.proofs.Words.{IfOk-weaker, object, assembled_view, members_assembled}
use Rattle.schemars_parts.proofs.PartViews.{seen_object}
use Rattle.schemars_parts.proofs.members.into_members.Goals as goal

pub returns-in-Object : goal.returns-in-Object
returns-in-Object c =
    IfOk-weaker c.of.result _ _
    (λ m h. ap assembled_view c.in-Object.is
    ∙ (seen_object c.in-Object.members ∙ ap object (sym (h ∙ ap (λ v. members_assembled v.items) c.in-Object.members-is))))
    c.of.ensures
