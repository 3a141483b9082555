use Rattle.std.proofs.Common.{◌≤◌, length, map, refl, ap, subst, ◌∙◌}
use Rattle.schemars_render.proofs.Words.{string, array, items_of, no_more, assembled_view}
use Rattle.schemars_render.proofs.Items.{texts_seen}
use Rattle.schemars_parts.proofs.PartViews.{seen_list}
use Rattle.schemars_render.proofs.assembling.assemble_texts.Goals as goal

pub returns : goal.returns
returns c =
    let texts = c.args.texts.now.items in
    let parts = c.loop-text.parts in
    seen_list parts
    ∙ ap array (ap items_of (no_more (λ ts. map string (map (λ t. t.now) ts)) texts c.loop-text.text-index
    (map assembled_view parts.items) _ (subst (λ xs. length xs ≤ c.loop-text.text-index) c.deref-text-items.ensures.value c.loop-text-test.false) refl c.loop-text.invariant) ∙ texts_seen (map (λ t. t.now) texts))
