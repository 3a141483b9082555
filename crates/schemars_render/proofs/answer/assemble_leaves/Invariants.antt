-- The parts so far, and the leaves that are left.
use Rattle.std.proofs.Common.{◌≡◌, ◌++◌, map, drop}
use Rattle.schemars_render.proofs.Words.{leaf_view, assembled_view}
use Rattle.schemars_render.proofs.answer.assemble_leaves.Given as goal

abbrev pub invariant-loop-leaf : goal.invariant-loop-leaf
invariant-loop-leaf l =
    map assembled_view l.parts.items ++ map leaf_view (drop l.leaf-index l.leaf-items) ≡ map leaf_view l.leaf-items
