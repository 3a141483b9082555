-- The items of a list are changed.
use Rattle.std.proofs.Common.{◌≡◌, ap, sym, ◌∙◌}
use Rattle.schemars_flatten.proofs.Words.{on_ok_weaker, array, view, items_view, view-Array, array-as_array, on_list, with_empty_object}
use Rattle.schemars_flatten.proofs.part.optional.change_list.Goals as goal

pub returns-in-Some : goal.returns-in-Some
returns-in-Some c =
    let ds = items_view c.in-Some.schemas.now.items in
    let is : view c.args.choice.now ≡ array ds = array-as_array (view c.args.choice.now) ds c.in-Some.ensures.value in
    on_ok_weaker c.push_empty_object.result
    (λ (changed : items_view c.push_empty_object.new.schemas.items ≡ with_empty_object ds).
    view-Array c.push_empty_object.new.schemas ∙ (ap array changed ∙ ap (on_list with_empty_object) (sym is)))
    c.push_empty_object.ensures
