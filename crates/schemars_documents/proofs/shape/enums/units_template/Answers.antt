-- The two keywords, one after the other.
use Rattle.std.proofs.Common.{◌∷◌, ◌++◌, [], ◌∙◌, map, ap, codes}
use Rattle.schemars_documents.proofs.Words.{map-append, value_view, keyword_view, object_with, typed_template, seen_texts}
use Rattle.schemars_templates.specs.declared.template.ValueTemplate as src
use Rattle.schemars_documents.proofs.shape.enums.units_template.Goals as goal

pub returns : goal.returns
returns c =
    let names = c.args.names in
    let two = ap (map keyword_view) c.in_ok-push.ensures.items
    ∙ (map-append keyword_view c.in_ok-keywords.keywords.items _
    ∙ (ap (λ ks. ks ++ (codes "enum", value_view (src.Texts names)) ∷ []) c.in_ok-keywords.ensures
    ∙ ap (λ t. typed_template (codes "string") ∷ (codes "enum", t) ∷ []) (seen_texts names))) in
    c.object_with.ensures ∙ ap object_with two
