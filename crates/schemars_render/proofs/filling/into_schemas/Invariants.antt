-- The schemas so far, and the answers that are left.
use Rattle.std.proofs.Common.{◌≡◌, ◌++◌}
use Rattle.schemars_render.proofs.filling.into_schemas.Given as goal

abbrev pub invariant-loop-answer : goal.invariant-loop-answer
invariant-loop-answer l = l.schemas.items ++ l.answer-iterator.rest.items ≡ l.fn.answers.items
