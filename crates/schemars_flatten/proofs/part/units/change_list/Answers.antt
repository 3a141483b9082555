-- The items of a list are changed.
use Rattle.std.proofs.Common.{◌≡◌, ap, sym, ◌∙◌}
use Rattle.schemars_flatten.proofs.Words.{on_ok_weaker, array, view, items_view, view-Array, array-as_array, on_list, first_as_objects}
use Rattle.schemars_flatten.proofs.part.units.change_list.Goals as goal

pub returns-in-Some : goal.returns-in-Some
returns-in-Some c =
    let ds = items_view c.in-Some.schemas.now.items in
    let is : view c.args.choice.now ≡ array ds = array-as_array (view c.args.choice.now) ds c.in-Some.ensures.value in
    on_ok_weaker c.first_as_objects.result
    (λ (changed : items_view c.first_as_objects.new.schemas.items ≡ first_as_objects ds).
    view-Array c.first_as_objects.new.schemas ∙ (ap array changed ∙ ap (on_list first_as_objects) (sym is)))
    c.first_as_objects.ensures
