use Rattle.std.proofs.Common.{◌++◌, map, arith, ap, ◌∙◌}
use Rattle.schemars_templates.proofs.Words.{◌==◌, map-append, keyword_view}
use Rattle.schemars_templates.proofs.Templates.{required_some}
use Rattle.schemars_templates.proofs.template.maps.add_required.Goals as goal

pub returns : goal.returns
returns c =
    ap (map keyword_view) c.in_ok-push.ensures.items
    ∙ (map-append keyword_view c.args.keywords.now.items _
    ∙ ap (λ es. map keyword_view c.args.keywords.now.items ++ es)
    (required_some c.args.required c.is_empty.result c.if-is_empty.false
    (c.is_empty.ensures ∙ ap (λ n. n == 0) (omega (arith, c.args.required.ok.0)))))
