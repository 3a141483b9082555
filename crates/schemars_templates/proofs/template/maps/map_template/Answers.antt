use Rattle.std.proofs.Common.{◌++◌, map, ap, ◌∙◌, codes}
use Rattle.schemars_templates.proofs.Words.{text_items, property_view, object_with, typed_template, properties_at, required_at, closed_keyword}
use Rattle.schemars_templates.proofs.Templates.{in_order}
use Rattle.schemars_templates.proofs.template.maps.map_template.Goals as goal

pub returns : goal.returns
returns c =
    let ps = properties_at (map property_view c.args.properties.items) in
    let rs = required_at (text_items (map (λ n. n.now) c.args.required.items)) in
    let cs = closed_keyword c.args.closed in
    let all = c.in_ok-add_closed.ensures
    ∙ (ap (λ es. es ++ cs)
    (c.in_ok-add_required.ensures ∙ ap (λ es. es ++ rs) (c.in_ok-add_properties.ensures ∙ ap (λ es. es ++ ps) c.in_ok-keywords.ensures))
    ∙ in_order (typed_template (codes "object")) ps rs cs) in
    c.object_with.ensures ∙ ap object_with all
