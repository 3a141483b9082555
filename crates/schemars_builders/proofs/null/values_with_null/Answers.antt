use Rattle.std.proofs.Common.{◌≡◌, false, ap, ◌∙◌, rules}
use Rattle.schemars_builders.proofs.Words.{array, null, items_view, view, view-Array, with_item, items_view-push, holds_null}
use Rattle.serde_json.specs.declared.value.Value.{Null, the_lemmas}
use Rattle.schemars_builders.proofs.null.values_with_null.Goals as goal

pub returns : goal.returns
returns c =
    let absent : holds_null (items_view c.args.values.items) ≡ false = search rules in
    let pushed : items_view c.push.new.list.items ≡ with_item (items_view c.args.values.items) (view Null) =
    ap items_view c.in_ok-push.ensures.ok ∙ items_view-push c.args.values.items Null in
    let seen : view Null ≡ null = search (rules, the_lemmas) in
    rw absent (view-Array c.push.new.list ∙ ap array (pushed ∙ ap (with_item (items_view c.args.values.items)) seen))
