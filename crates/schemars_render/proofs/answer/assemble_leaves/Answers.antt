use Rattle.std.proofs.Common.{map, refl, ap, ◌∙◌}
use Rattle.schemars_render.proofs.Words.{no_more, leaf_view, assembled_view}
use Rattle.schemars_render.proofs.answer.assemble_leaves.Goals as goal

pub returns : goal.returns
returns c =
    no_more (map leaf_view) c.deref-leaf-items.result.now c.loop-leaf.leaf-index (map assembled_view c.loop-leaf.parts.items) _
    c.loop-leaf-test.false refl c.loop-leaf.invariant
    ∙ ap (map leaf_view) c.deref-leaf-items.ensures.value
