-- A list that is taken out and put back does what a list does.
use Rattle.std.proofs.Common.{subst}
use Rattle.schemars_transform.proofs.Words.{members_view, EachMember, AtSchema, ApplyInOrder}
use Rattle.schemars_transform.proofs.Seen.{each_seen}
use Rattle.schemars_transform.proofs.apply.apply_to_members.Goals as goal

pub returns : goal.returns
returns g c =
    subst (λ ts. EachMember (λ k. AtSchema (ApplyInOrder g.O.Transform.makes)) ts (members_view c.args.members.now.entries)
    c.transform_members-answer.result c.transform_members-answer.new.t.transforms
    (members_view c.transform_members-answer.new.members.entries)) c.replace.ensures.value (each_seen
    (ApplyInOrder g.O.Transform.makes) (λ t s r u v. ApplyInOrder g.O.Transform.makes t.transforms s r u.transforms v)
    (λ t. t.transforms) (λ t u d e r h. h) _ _ _ _ _ c.transform_members-answer.ensures)
