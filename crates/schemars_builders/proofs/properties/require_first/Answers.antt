-- A name among those that are required, or the only one.
use Rattle.std.proofs.Common.{◌≡◌, Some, None, option_map, codes, ap, ◌∙◌}
use Rattle.schemars_builders.proofs.Words.{on_ok_weaker, string, array, no_items, item, put, get_member, view, members_view, view-lookup, with_first, changed_there, changed_missing}
use Rattle.schemars_builders.proofs.properties.require_first.Goals as goal

pub returns-in-Some : goal.returns-in-Some
returns-in-Some c =
    let key = codes "required" in
    let entries = c.args.members.now.entries in
    let old = c.in-Some.required.now in
    let new = c.insert_first.new.list in
    let change = with_first (string c.args.name.now) in
    let found : Some (view old) ≡ get_member key (members_view entries) =
    ap (option_map view) c.in-Some.ensures.value ∙ view-lookup key entries in
    on_ok_weaker c.insert_first.result
    (λ (changed : view new ≡ with_first (view c.in_ok-name.name) (view old)).
    ap members_view (c.get_mut.follows.holds new).0
    ∙ changed_there key entries old new change (array no_items) found (changed ∙ ap (λ d. with_first d (view old)) c.in_ok-name.ensures))
    c.insert_first.ensures

pub returns-in-None : goal.returns-in-None
returns-in-None c =
    let key = codes "required" in
    let entries = c.args.members.now.entries in
    let kept = members_view c.get_mut.follows.lender-at-none.entries in
    let made = array (item (view c.in_ok-name.name) no_items) in
    let missing : None ≡ get_member key (members_view entries) =
    ap (option_map view) c.in-None.ensures.value ∙ view-lookup key entries in
    on_ok_weaker c.require_alone.result
    (λ (joined : members_view c.require_alone.new.members.entries ≡ put key made kept).
    joined ∙ changed_missing key kept (members_view entries) (with_first (string c.args.name.now)) (array no_items) made missing
    (ap (λ d. array (item d no_items)) c.in_ok-name.ensures) (ap (λ m. members_view m.entries) c.get_mut.follows.holds-at-none))
    c.require_alone.ensures
