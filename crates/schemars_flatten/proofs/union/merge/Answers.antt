-- Two objects are one, with the second's values put in; of what is no object the first stays.
use Rattle.std.proofs.Common.{◌≡◌, ap, ◌∙◌}
use Rattle.schemars_flatten.proofs.Words.{on_ok_weaker, object, view, members_view, view-Object, put_members, object-as_object}
use Rattle.schemars_flatten.proofs.Parts.{objects_merged, no_object_merged}
use Rattle.schemars_flatten.proofs.union.merge.Goals as goal

pub returns-in-Some : goal.returns-in-Some
returns-in-Some c =
    let first = view c.args.first.now in
    let ms = members_view c.in-Some.members.now.entries in
    let ns = members_view c.in-Object.more.entries in
    on_ok_weaker c.put_members.result
    (λ (joined : members_view c.put_members.new.members.entries ≡ put_members ns ms).
    objects_merged first (view c.args.second) _ ms ns (object-as_object first ms c.in-Some.ensures.value)
    (ap view c.in-Object.is ∙ view-Object c.in-Object.more) (view-Object c.put_members.new.members ∙ ap object joined))
    c.put_members.ensures

pub returns-in-Object : goal.returns-in-Object
returns-in-Object c = no_object_merged (view c.args.first.now) (view c.args.second) c.in-None.ensures.value
