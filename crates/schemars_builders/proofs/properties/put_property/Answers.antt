-- A property among those that are there, or the first.
use Rattle.std.proofs.Common.{◌≡◌, Some, None, option_map, codes, ap, ◌∙◌}
use Rattle.schemars_builders.proofs.Words.{on_ok_weaker, object, no_members, put, get_member, view, members_view, view-Object, view-lookup, with_member, changed_there, changed_missing}
use Rattle.serde_json.specs.declared.value.Value.{Object}
use Rattle.schemars_builders.proofs.properties.put_property.Goals as goal

pub returns-in-Some : goal.returns-in-Some
returns-in-Some c =
    let key = codes "properties" in
    let entries = c.args.members.now.entries in
    let old = c.in-Some.properties.now in
    let new = c.put_member.new.object in
    let change = with_member c.args.name.now (view c.args.property) in
    let found : Some (view old) ≡ get_member key (members_view entries) =
    ap (option_map view) c.in-Some.ensures.value ∙ view-lookup key entries in
    on_ok_weaker c.put_member.result
    (λ (changed : view new ≡ change (view old)).
    ap members_view (c.get_mut.follows.holds new).0 ∙ changed_there key entries old new change (object no_members) found changed)
    c.put_member.ensures

pub returns-in_ok-put-in-None : goal.returns-in_ok-put-in-None
returns-in_ok-put-in-None c =
    let key = codes "properties" in
    let entries = c.args.members.now.entries in
    let kept = members_view c.get_mut.follows.lender-at-none.entries in
    let made = view (Object c.put.new.map) in
    let name = c.args.name.now in
    let property = view c.args.property in
    let missing : None ≡ get_member key (members_view entries) =
    ap (option_map view) c.in-None.ensures.value ∙ view-lookup key entries in
    let first : made ≡ object (put name property no_members) =
    view-Object c.put.new.map
    ∙ ap object (c.in_ok-put-in-None.ensures.ok ∙ ap (λ es. put name property (members_view es)) c.new-properties.ensures.empty) in
    on_ok_weaker c.put-in-None.result
    (λ (joined : members_view c.put-in-None.new.map.entries ≡ put key made kept).
    joined ∙ changed_missing key kept (members_view entries) (with_member name property) (object no_members) made missing first
    (ap (λ m. members_view m.entries) c.get_mut.follows.holds-at-none))
    c.put-in-None.ensures.ok
