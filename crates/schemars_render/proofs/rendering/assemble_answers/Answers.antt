use Rattle.std.proofs.Common.{map, refl}
use Rattle.schemars_render.proofs.Words.{no_more, assembled_view}
use Rattle.schemars_render.proofs.rendering.assemble_answers.Goals as goal

pub returns : goal.returns
returns c =
    no_more (λ ds. ds) c.args.answers.now c.loop-answer.answer-index (map assembled_view c.loop-answer.parts.items) _
    c.loop-answer-test.false refl c.loop-answer.invariant
