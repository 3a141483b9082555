-- Each side is moved beside the other, and the second is put into the first.
use Rattle.std.proofs.Common.{◌≡◌, ap, ◌∙◌}
use Rattle.schemars_flatten.proofs.Words.{on_ok_weaker, members_view, moved_beside, with_keywords}
use Rattle.schemars_flatten.proofs.merging.unite.Goals as goal

pub returns : goal.returns
returns c =
    let others = members_view c.args.others.entries in
    let left = members_view c.move_beside.new.members.entries in
    let right = members_view c.move_beside-2.new.members.entries in
    let first : left ≡ moved_beside others (members_view c.args.members.now.entries) = c.in_ok-move_beside.ensures in
    let second : right ≡ moved_beside left others = c.in_ok-move_beside-2.ensures in
    on_ok_weaker c.put_keywords.result
    (λ (put_in : members_view c.put_keywords.new.members.entries ≡ with_keywords right left).
    put_in ∙ (ap (λ x. with_keywords x left) second ∙ ap (λ x. with_keywords (moved_beside x others) x) first))
    c.put_keywords.ensures
