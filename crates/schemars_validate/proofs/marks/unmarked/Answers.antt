-- So many marks that are not set.
use Rattle.std.proofs.Common.{◌≡◌, ◌∙◌, ap, ℕ, replicate, false}
use Rattle.schemars_validate.proofs.Words.{IfOk-weaker, view, unmarked, parts_of}
use Rattle.schemars_validate.proofs.Marking.{none_marked}
use Rattle.schemars_validate.proofs.marks.unmarked.Goals as goal

pub returns : goal.returns
returns c =
    let ps = parts_of (view c.args.value.now) in
    IfOk-weaker c.vec.result _ (λ marks. marks.items ≡ unmarked ps)
    (λ marks same. same (λ y h. h) ∙ (ap (λ (n : ℕ). replicate n false) c.count_of_parts.ensures ∙ none_marked ps))
    c.vec.ensures.items_if_clones_equal
