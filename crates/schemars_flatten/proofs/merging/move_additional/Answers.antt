-- What is taken out goes in under the other name.
use Rattle.std.proofs.Common.{◌≡◌, codes}
use Rattle.schemars_flatten.proofs.Words.{on_ok_weaker, put, view, members_view}
use Rattle.schemars_flatten.proofs.Parts.{moved_there, moved_missing}
use Rattle.schemars_flatten.proofs.merging.move_additional.Goals as goal

pub returns-in-Some : goal.returns-in-Some
returns-in-Some c =
    let old = members_view c.args.members.now.entries in
    let mid = members_view c.remove.new.members.entries in
    let new = members_view c.put.new.map.entries in
    let d = view c.in-Some.additional in
    on_ok_weaker c.put.result
    (λ (made : new ≡ put (codes "unevaluatedProperties") d mid). moved_there old mid new d c.in-Some.ensures.value
    c.in-Some.ensures.removed made)
    c.put.ensures.ok

pub returns-in-None : goal.returns-in-None
returns-in-None c =
    moved_missing (members_view c.args.members.now.entries)
    (members_view c.remove.new.members.entries) c.in-None.ensures.value
    c.in-None.ensures.removed
