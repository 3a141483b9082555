-- One mark more.
use Rattle.schemars_validate.proofs.Uniting.{united_next}
use Rattle.schemars_validate.proofs.marks.unite.Goals as goal

pub loop-place-preserved : goal.loop-place-preserved
loop-place-preserved c =
    united_next c.args.others.now c.args.marks.now.items c.mark_if.new.marks.items c.loop-place.place c.loop-place-test.true
    c.loop-place.marks.items c.loop-place.invariant c.mark_if.ensures
