-- The leaves so far, and the answers that are left.
use Rattle.std.proofs.Common.{◌≡◌, ◌++◌, map}
use Rattle.schemars_render.specs.Answer.{leaf_view}
use Rattle.schemars_render.proofs.answer.into_leaves.Given as goal

abbrev pub invariant-loop-answer : goal.invariant-loop-answer
invariant-loop-answer l = map leaf_view l.leaves.items ++ l.answer-iterator.rest.items ≡ l.fn.answers.items
