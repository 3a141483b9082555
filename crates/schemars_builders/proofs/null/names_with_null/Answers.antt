use Rattle.std.proofs.Common.{◌≡◌, false, ap, ◌∙◌, codes, rules}
use Rattle.schemars_builders.proofs.Words.{array, items_view, view, view-Array, holds_text, with_item, items_view-push}
use Rattle.schemars_builders.proofs.null.names_with_null.Goals as goal

pub returns : goal.returns
returns c =
    let absent : holds_text (codes "null") (items_view c.args.names.items) ≡ false = search rules in
    let pushed : items_view c.push.new.list.items ≡ with_item (items_view c.args.names.items) (view c.in_ok-null.null) =
    ap items_view c.in_ok-push.ensures.ok ∙ items_view-push c.args.names.items c.in_ok-null.null in
    rw absent (view-Array c.push.new.list ∙ ap array (pushed ∙ ap (with_item (items_view c.args.names.items)) c.in_ok-null.ensures))
