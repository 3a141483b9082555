-- A list's items with one more.
use Rattle.std.proofs.Common.{◌≡◌, ◌++◌, [], ◌∷◌, ap, sym, ◌∙◌}
use Rattle.schemars_schema.proofs.Words.{on_ok_weaker, array, view, items_view, view-Array, with_last}
use Rattle.schemars_schema.proofs.Containers.{array-as_array}
use Rattle.schemars_schema.proofs.Lists.{items_view-push}
use Rattle.schemars_schema.proofs.edits.push_to.Goals as goal

pub returns-in-Some : goal.returns-in-Some
returns-in-Some c =
    let items = c.in-Some.items.now.items in
    let value = c.args.value in
    let is : view c.args.list.now ≡ array (items_view items) =
    array-as_array (view c.args.list.now) (items_view items) c.in-Some.ensures.value in
    on_ok_weaker c.push.result
    (λ (pushed : c.push.new.list.items ≡ items ++ value ∷ []).
    view-Array c.push.new.list
    ∙ (ap array (ap items_view pushed ∙ items_view-push items value) ∙ ap (with_last (view value)) (sym is)))
    c.push.ensures.ok
