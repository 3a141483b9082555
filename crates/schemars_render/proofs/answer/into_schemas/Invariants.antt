-- The schemas so far, and those of the leaves that are left.
use Rattle.std.proofs.Common.{◌≡◌, ◌++◌, map}
use Rattle.schemars_render.specs.Answer.{leaf_view}
use Rattle.schemars_render.proofs.answer.into_schemas.Given as goal

abbrev pub invariant-loop-leaf : goal.invariant-loop-leaf
invariant-loop-leaf l = l.schemas.items ++ map leaf_view l.leaf-iterator.rest.items ≡ map leaf_view l.fn.leaves.items
