-- One more mark is set, up to the last.
use Rattle.std.proofs.Common.{◌≡◌, ap, ◌∙◌, ℕ, min, length, set, true, List, Bool, arith}
use Rattle.schemars_validate.proofs.Words.{first_marked}
use Rattle.schemars_validate.proofs.Marking.{first_next, first_enough}
use Rattle.schemars_validate.proofs.marks.mark_first.Goals as goal

pub loop-place-preserved : goal.loop-place-preserved
loop-place-preserved c =
    ap (λ (bs : List Bool). set bs c.loop-place.place true) c.loop-place.invariant ∙ first_next c.loop-place.place c.args.marks.now.items

pub returns : goal.returns
returns c =
    let old = c.args.marks.now.items in
    let all : c.loop-place.place ≡ min c.args.count (length old) = omega (arith, c.args.marks.now.ok.0) in
    c.loop-place.invariant ∙ (ap (λ (n : ℕ). first_marked n old) all ∙ first_enough c.args.count old)
