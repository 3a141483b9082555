-- A list's items with more behind them.
use Rattle.std.proofs.Common.{◌≡◌, ap, sym, ◌∙◌}
use Rattle.schemars_flatten.proofs.Words.{on_ok_weaker, array, view, items_view, view-Array, array-as_array, appended, with_items}
use Rattle.schemars_flatten.proofs.part.units.push_units.Goals as goal

pub returns-in-Some : goal.returns-in-Some
returns-in-Some c =
    let ds = items_view c.in-Some.schemas.now.items in
    let es = items_view c.args.units.items in
    let is : view c.args.choice.now ≡ array ds = array-as_array (view c.args.choice.now) ds c.in-Some.ensures.value in
    on_ok_weaker c.push_all.result
    (λ (pushed : items_view c.push_all.new.items.items ≡ appended ds es).
    view-Array c.push_all.new.items ∙ (ap array pushed ∙ ap (with_items es) (sym is)))
    c.push_all.ensures
