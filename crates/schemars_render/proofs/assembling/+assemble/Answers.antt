use Rattle.std.proofs.Common.{map, refl, ap, ◌∙◌}
use Rattle.schemars_render.proofs.Words.{object_of, no_more, IfOk-weaker, keyword_view, property_view, assembled_view, named_view}
use Rattle.schemars_render.proofs.FilledMembers.{filled_keywords}
use Rattle.schemars_render.proofs.assembling.+assemble.Goals as goal

pub assemble_object-returns-clause-value : goal.assemble_object-returns-clause-value
assemble_object-returns-clause-value t c =
    let loop = c.loop-keyword in
    let ts = map assembled_view loop.answers.items in
    let us = map assembled_view c.args.answers.now.items in
    IfOk-weaker c.object_of.result _ _
    (λ p h. h ∙ (ap object_of (no_more (λ es. filled_keywords (map keyword_view es) ts) c.deref-keyword-items.result.now loop.keyword-index
    (map named_view loop.members.items) _ c.loop-keyword-test.false refl loop.invariant.value)
    ∙ ap (λ es. object_of (filled_keywords (map keyword_view es) us)) c.deref-keyword-items.ensures.value))
    c.object_of.ensures

pub assemble_named-returns-clause-value : goal.assemble_named-returns-clause-value
assemble_named-returns-clause-value t c =
    let loop = c.loop-named in
    let ts = map assembled_view loop.answers.items in
    let us = map assembled_view c.args.answers.now.items in
    IfOk-weaker c.object_of.result _ _
    (λ p h. h ∙ (ap object_of (no_more (λ es. filled_keywords (map property_view es) ts) c.deref-named-items.result.now loop.named-index
    (map named_view loop.members.items) _ c.loop-named-test.false refl loop.invariant.value)
    ∙ ap (λ es. object_of (filled_keywords (map property_view es) us)) c.deref-named-items.ensures.value))
    c.object_of.ensures
