use Rattle.std.proofs.Common.{◌≡◌, map, subst, IfOk}
use Rattle.schemars_documents.proofs.Words.{text_items, field_of, node_view, property, map_template}
use Rattle.schemars_documents.proofs.shape.maps.fields_template.Goals as goal

pub returns : goal.returns
returns c =
    let required = text_items (map (λ n. n.now) c.in_ok-required.required.items) in
    let own = map property (map field_of c.args.list.now) in
    subst (λ ns. IfOk c.map_template.result (λ t. node_view t ≡ map_template own (text_items ns) c.args.closed)) c.in_ok-required.ensures
    (subst (λ ps. IfOk c.map_template.result (λ t. node_view t ≡ map_template ps required c.args.closed)) c.in_ok-properties.ensures
    c.map_template.ensures)
