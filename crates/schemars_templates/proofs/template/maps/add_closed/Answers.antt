use Rattle.std.proofs.Common.{◌∷◌, ◌++◌, [], map, ap, ◌∙◌, codes}
use Rattle.schemars_templates.proofs.Words.{map-append, keyword_view}
use Rattle.schemars_templates.proofs.Templates.{closed_true}
use Rattle.schemars_templates.proofs.template.maps.add_closed.Goals as goal

pub returns-in_ok-push : goal.returns-in_ok-push
returns-in_ok-push c =
    ap (map keyword_view) c.in_ok-push.ensures.items
    ∙ (map-append keyword_view c.args.keywords.now.items _
    ∙ ap (λ es. map keyword_view c.args.keywords.now.items ++ es)
    (ap (λ t. (codes "additionalProperties", t) ∷ []) c.truth.ensures ∙ closed_true c.args.closed c.if-closed.true))
