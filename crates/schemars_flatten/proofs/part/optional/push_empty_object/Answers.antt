-- The empty object joins where it is missing.
use Rattle.std.proofs.Common.{◌≡◌, false, sym, ap, ◌∙◌}
use Rattle.schemars_flatten.proofs.Words.{on_ok_weaker, object, no_members, view, items_view, members_view, view-Object, holds_empty_object}
use Rattle.serde_json.specs.declared.value.Value.{Object}
use Rattle.schemars_flatten.proofs.Optional.{empty_pushed}
use Rattle.schemars_flatten.proofs.part.optional.push_empty_object.Goals as goal

pub returns : goal.returns
returns c =
    let items = c.args.schemas.now.items in
    let absent : holds_empty_object (items_view items) ≡ false =
    ap (λ xs. holds_empty_object (items_view xs)) (sym c.deref.ensures.value)
    ∙ (sym c.holds_empty_object.ensures ∙ c.if-holds_empty_object.false) in
    let empty : view (Object c.new.result) ≡ object no_members =
    view-Object c.new.result ∙ ap (λ es. object (members_view es)) c.new.ensures.empty in
    on_ok_weaker c.push.result
    (λ pushed. ap items_view pushed ∙ empty_pushed items (Object c.new.result) absent empty)
    c.push.ensures.ok
