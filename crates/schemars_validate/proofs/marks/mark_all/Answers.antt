use Rattle.std.proofs.Common.{ap, ◌∙◌, ℕ}
use Rattle.schemars_validate.proofs.Words.{view, first_marked, parts_of}
use Rattle.schemars_validate.proofs.Marking.{first_all}
use Rattle.schemars_validate.proofs.marks.mark_all.Goals as goal

pub returns : goal.returns
returns c =
    c.mark_first.ensures
    ∙ (ap (λ (n : ℕ). first_marked n c.args.marks.now.items) c.count_of_parts.ensures
    ∙ first_all (parts_of (view c.args.value.now)) c.args.marks.now.items)
