use Rattle.std.proofs.Common.{◌≡◌, ◌++◌, length, map, sym, ap, ◌∙◌, append-nil, rules}
use Rattle.schemars_render.proofs.Words.{nil_from_length, leaf_view}
use Rattle.schemars_render.proofs.answer.into_schemas.Goals as goal

pub returns : goal.returns
returns c =
    let done = c.loop-leaf.schemas.items in
    let none : length c.loop-leaf.leaf-iterator.rest.items ≡ 0 = search rules in
    let ends = nil_from_length c.loop-leaf.leaf-iterator.rest.items none in
    sym (append-nil done) ∙ (ap (λ ls. done ++ map leaf_view ls) (sym ends) ∙ c.loop-leaf.invariant)
