-- A text's object joins, and nothing else does.
use Rattle.std.proofs.Common.{ap, ◌∙◌}
use Rattle.schemars_flatten.proofs.Words.{on_ok_weaker, as_str, view, items_view}
use Rattle.schemars_flatten.proofs.UnitObjects.{unit_pushed, no_unit}
use Rattle.schemars_flatten.proofs.part.units.push_unit.Goals as goal

pub returns-in_ok-unit_object-in-Some : goal.returns-in_ok-unit_object-in-Some
returns-in_ok-unit_object-in-Some c =
    let unit = c.in_ok-unit_object-in-Some in
    on_ok_weaker c.push.result
    (λ pushed. ap items_view pushed
    ∙ unit_pushed c.args.units.now.items unit.field-0 (as_str (view c.args.text.now)) c.in-Some.name.now
    c.in-Some.ensures unit.ensures)
    c.push.ensures.ok

pub returns-in-None : goal.returns-in-None
returns-in-None c = no_unit c.args.units.now.items (as_str (view c.args.text.now)) c.in-None.ensures
