-- The object of the next text joins those so far.
use Rattle.std.proofs.Common.{arith}
use Rattle.schemars_flatten.proofs.Words.{items_view, unit_objects}
use Rattle.schemars_flatten.proofs.UnitObjects.{unit_turn, units_end}
use Rattle.schemars_flatten.proofs.part.units.unit_objects.Goals as goal

pub loop-text-preserved : goal.loop-text-preserved
loop-text-preserved c =
    let xs = c.args.texts.now in
    unit_turn xs c.loop-text.text-index c.text-item.result (unit_objects (items_view xs))
    (items_view c.loop-text.units.items) (items_view c.push_unit.new.units.items) c.loop-text-test.true c.text-item.is
    c.in_ok-push_unit.ensures c.loop-text.invariant

pub returns : goal.returns
returns c =
    let xs = c.args.texts.now in
    units_end xs c.loop-text.text-index (unit_objects (items_view xs)) (items_view c.loop-text.units.items)
    (omega (arith, c.loop-text-test.false)) c.loop-text.invariant
