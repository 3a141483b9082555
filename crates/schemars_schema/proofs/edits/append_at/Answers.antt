-- A value among those of a list, or the only one.
use Rattle.std.proofs.Common.{◌≡◌, Some, None, option_map, ap, ◌∙◌}
use Rattle.schemars_schema.proofs.Words.{on_ok_weaker, array, no_items, item, put, get_member, view, items_view, members_view, view-lookup, view-Array, with_last}
use Rattle.serde_json.specs.declared.value.Value.TheVariants.{Array}
use Rattle.schemars_schema.proofs.Changes.{changed_there, changed_missing}
use Rattle.schemars_schema.proofs.edits.append_at.Goals as goal

pub returns-in-Some : goal.returns-in-Some
returns-in-Some c =
    let key = c.args.key.now in
    let entries = c.args.members.now.entries in
    let old = c.in-Some.list.now in
    let new = c.push_to.new.list in
    let found : Some (view old) ≡ get_member key (members_view entries) =
    ap (option_map view) c.in-Some.ensures.value ∙ view-lookup key entries in
    on_ok_weaker c.push_to.result
    (λ (changed : view new ≡ with_last (view c.args.value) (view old)).
    ap members_view (c.get_mut.follows.holds new).0 ∙ changed_there key entries old new (with_last (view c.args.value)) (array no_items)
    found changed)
    c.push_to.ensures

pub returns-in_ok-list-in-None : goal.returns-in_ok-list-in-None
returns-in_ok-list-in-None c =
    let key = c.args.key.now in
    let entries = c.args.members.now.entries in
    let kept = members_view c.get_mut.follows.lender-at-none.entries in
    let list = c.in_ok-list-in-None.list in
    let made : view (Array list) ≡ array (item (view c.args.value) no_items) =
    view-Array list ∙ ap (λ xs. array (items_view xs)) c.in_ok-list-in-None.ensures.items in
    let missing : None ≡ get_member key (members_view entries) =
    ap (option_map view) c.in-None.ensures.value ∙ view-lookup key entries in
    on_ok_weaker c.put.result
    (λ (joined : members_view c.put.new.map.entries ≡ put key (view (Array list)) kept).
    joined ∙ changed_missing key kept (members_view entries) (with_last (view c.args.value)) (array no_items) (view (Array list))
    missing made
    (ap (λ m. members_view m.entries) c.get_mut.follows.holds-at-none))
    c.put.ensures.ok
