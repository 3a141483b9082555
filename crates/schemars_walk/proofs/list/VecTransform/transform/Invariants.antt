-- What the members that are left do ends what the whole list does.
use Rattle.std.proofs.Common.{List, take, drop, ◌++◌}
use Rattle.schemars_walk.proofs.Words.{Data, Answer, InOrder}
use Rattle.schemars_walk.proofs.list.VecTransform.transform.Given as goal

abbrev pub invariant-loop-member : goal.invariant-loop-member
invariant-loop-member g l =
    (r : Answer) (us : List _) (v : Data)
    → InOrder g.T.Transform.makes (drop l.member-index l.member-items) l.schema r us v
    → InOrder g.T.Transform.makes l.fn.self.items l.fn.schema r (take l.member-index l.member-items ++ us) v
