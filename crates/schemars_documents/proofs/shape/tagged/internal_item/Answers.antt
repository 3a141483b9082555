-- The variant's notes are beside its tag and its content.
use Rattle.std.proofs.Common.{◌≡◌, ap, ◌∙◌, rules, Box, Global}
use Rattle.schemars_documents.proofs.Words.{internal_variant_of, Template, noted, tagged, content_template, template_view, node_view}
use Rattle.schemars_templates.specs.declared.template.SchemaTemplate.{SchemaTemplate}
use Rattle.schemars_templates.specs.declared.template.SchemaNode.{Tagged, the_lemmas}
use Rattle.schemars_templates.specs.declared.template.Tag.{Tag}
use Rattle.schemars_documents.proofs.shape.tagged.internal_item.Goals as goal

seen_tagged : (tag : Box Tag Global) (t : Box SchemaTemplate Global)
    → node_view (Tagged tag t)
    ≡ tagged tag.value.tag.now tag.value.name.now tag.value.closed (template_view t.value)
seen_tagged tag t = search (rules, the_lemmas)

pub returns : goal.returns
returns c =
    let tag = c.args.tag in
    let x = internal_variant_of c.args.variant.now in
    let content = content_template c.args.contract x.payload in
    let beside = seen_tagged c.in_ok-tag.tag c.in_ok-inner.inner in
    let with_tag : Tag → Template = λ v. tagged v.tag.now v.name.now v.closed (template_view c.in_ok-inner.inner.value) in
    let inside = ap template_view c.in_ok-inner.ensures.ok ∙ (c.bare.ensures ∙ c.in_ok-content.ensures) in
    let said = ap (tagged tag.now c.as_str-name.result.now c.args.closed) inside in
    let named = ap (λ name. tagged tag.now name c.args.closed content) c.as_str-name.ensures.value in
    c.noted.ensures ∙ ap (noted x.notes) (beside ∙ (ap with_tag c.in_ok-tag.ensures.ok ∙ (said ∙ named)))
