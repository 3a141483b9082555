use Rattle.std.proofs.Common.{◌≡◌, ◌++◌, length, map, sym, ap, ◌∙◌, append-nil, rules}
use Rattle.schemars_render.proofs.Words.{nil_from_length, leaf_view}
use Rattle.schemars_render.proofs.answer.into_leaves.Goals as goal

pub returns : goal.returns
returns c =
    let done = map leaf_view c.loop-answer.leaves.items in
    let none : length c.loop-answer.answer-iterator.rest.items ≡ 0 = search rules in
    let ends = nil_from_length c.loop-answer.answer-iterator.rest.items none in
    sym (append-nil done) ∙ (ap (λ ds. done ++ ds) (sym ends) ∙ c.loop-answer.invariant)
