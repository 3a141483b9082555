-- The keywords, as they come one after another.
use Rattle.std.proofs.Common.{◌≡◌, ◌∷◌, ◌++◌, [], ◌∙◌, map, ap, codes}
use Rattle.schemars_documents.proofs.Words.{map-append, value_view, keyword_view, object_with, typed_template, other_values, pattern_properties_at, properties_at, values_of}
use Rattle.schemars_documents.proofs.shape.keyed.keyed_template.Goals as goal

pub returns : goal.returns
returns c =
    let value = c.args.value in
    let patterns = pattern_properties_at (values_of value (map (λ t. t.now) c.args.patterns.now)) in
    let texts = values_of value (map (λ t. t.now) c.args.texts.now) in
    let two : map keyword_view c.push.new.self.items
    ≡ typed_template (codes "object") ∷ (codes "additionalProperties", other_values c.args.others value) ∷ [] =
    ap (map keyword_view) c.in_ok-push.ensures.items
    ∙ (map-append keyword_view c.in_ok-keywords.keywords.items _
    ∙ (ap (λ ks. ks ++ (codes "additionalProperties", value_view c.other_values.result) ∷ []) c.in_ok-keywords.ensures
    ∙ ap (λ t. typed_template (codes "object") ∷ (codes "additionalProperties", t) ∷ []) c.other_values.ensures)) in
    let all = c.in_ok-add_properties.ensures
    ∙ (ap (λ ks. map keyword_view c.add_pattern_properties.new.keywords.items ++ properties_at ks) c.in_ok-properties.ensures
    ∙ ap (λ ks. ks ++ properties_at texts) (c.in_ok-add_pattern_properties.ensures ∙ ap (λ ks. ks ++ patterns) two)) in
    c.object_with.ensures ∙ ap object_with all
