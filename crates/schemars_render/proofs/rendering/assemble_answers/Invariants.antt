-- The parts so far, and the answers that are left.
use Rattle.std.proofs.Common.{◌≡◌, ◌++◌, map, drop}
use Rattle.schemars_parts.specs.Assembled.{assembled_view}
use Rattle.schemars_render.proofs.rendering.assemble_answers.Given as goal

abbrev pub invariant-loop-answer : goal.invariant-loop-answer
invariant-loop-answer l = map assembled_view l.parts.items ++ drop l.answer-index l.answers ≡ l.answers
