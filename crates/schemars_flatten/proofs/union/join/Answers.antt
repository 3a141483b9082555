-- Two lists are one behind the other; of what is no list the first stays.
use Rattle.std.proofs.Common.{◌≡◌, ap, ◌∙◌}
use Rattle.schemars_flatten.proofs.Words.{on_ok_weaker, array, view, items_view, view-Array, array-as_array, appended}
use Rattle.schemars_flatten.proofs.Parts.{lists_joined, no_list_joined}
use Rattle.schemars_flatten.proofs.union.join.Goals as goal

pub returns-in-Some : goal.returns-in-Some
returns-in-Some c =
    let first = view c.args.first.now in
    let ds = items_view c.in-Some.items.now.items in
    let es = items_view c.in-Array.more.items in
    on_ok_weaker c.push_all.result
    (λ (pushed : items_view c.push_all.new.items.items ≡ appended ds es).
    lists_joined first (view c.args.second) _ ds es (array-as_array first ds c.in-Some.ensures.value)
    (ap view c.in-Array.is ∙ view-Array c.in-Array.more) (view-Array c.push_all.new.items ∙ ap array pushed))
    c.push_all.ensures

pub returns-in-Array : goal.returns-in-Array
returns-in-Array c = no_list_joined (view c.args.first.now) (view c.args.second) c.in-None.ensures.value
