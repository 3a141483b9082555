use Rattle.std.proofs.Common.{◌≤◌, length, map, refl, ap, subst, ◌∙◌}
use Rattle.schemars_render.proofs.Words.{IfOk-weaker, object_of, scalar_keyword, no_more, named_view}
use Rattle.schemars_render.proofs.assembling.assemble_keywords.Goals as goal

pub returns : goal.returns
returns c =
    let i = c.loop-keyword.keyword-index in
    IfOk-weaker c.object_of.result _ _
    (λ p h. h ∙ ap object_of (no_more (map scalar_keyword) c.args.keywords.now.items i (map named_view c.loop-keyword.members.items) _
    (subst (λ ks. length ks ≤ i) c.deref-keyword-items.ensures.value c.loop-keyword-test.false) refl c.loop-keyword.invariant))
    c.object_of.ensures
