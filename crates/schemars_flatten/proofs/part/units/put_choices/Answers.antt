-- The objects join those of a choice, or are the first there.
use Rattle.std.proofs.Common.{◌≡◌, Some, None, option_map, codes, ap, ◌∙◌}
use Rattle.schemars_flatten.proofs.Words.{on_ok_weaker, array, no_items, put, get_member, view, items_view, members_view, view-Array, view-lookup, changed_there, changed_missing, with_items}
use Rattle.serde_json.specs.declared.value.Value.{Array}
use Rattle.schemars_flatten.proofs.part.units.put_choices.Goals as goal

pub returns-in-Some : goal.returns-in-Some
returns-in-Some c =
    let key = codes "oneOf" in
    let entries = c.args.members.now.entries in
    let old = c.in-Some.choice.now in
    let new = c.push_units.new.choice in
    let change = with_items (items_view c.args.units.items) in
    let found : Some (view old) ≡ get_member key (members_view entries) =
    ap (option_map view) c.in-Some.ensures.value ∙ view-lookup key entries in
    on_ok_weaker c.push_units.result
    (λ (changed : view new ≡ change (view old)).
    ap members_view (c.get_mut.follows.holds new).0
    ∙ changed_there key entries old new change (array no_items) found changed)
    c.push_units.ensures

pub returns-in-None : goal.returns-in-None
returns-in-None c =
    let key = codes "oneOf" in
    let entries = c.args.members.now.entries in
    let kept = members_view c.get_mut.follows.lender-at-none.entries in
    let made = view (Array c.args.units) in
    let missing : None ≡ get_member key (members_view entries) =
    ap (option_map view) c.in-None.ensures.value ∙ view-lookup key entries in
    on_ok_weaker c.put.result
    (λ (joined : members_view c.put.new.map.entries ≡ put key made kept).
    joined
    ∙ changed_missing key kept (members_view entries) (with_items (items_view c.args.units.items)) (array no_items) made
    missing (view-Array c.args.units) (ap (λ m. members_view m.entries) c.get_mut.follows.holds-at-none))
    c.put.ensures.ok
