-- What the transforms that are left do ends what the whole list does, and needs that are known are those of the schema as it is now.
use Rattle.std.proofs.Common.{◌≡◌, List, take, drop, ◌++◌}
use Rattle.schemars_transform.proofs.Words.{IfSome, Data, Answer, InOrder, OfMember, needs_of}
use Rattle.schemars_transform.proofs.apply.apply_each.Given as goal

abbrev pub invariant-loop-transform : goal.invariant-loop-transform
invariant-loop-transform g l = record {
  needs : IfSome l.needs (λ known. known ≡ needs_of l.schema);
  goes_on : (r : Answer) (us : List _) (v : Data)
      → InOrder (OfMember g.O.Transform.makes) (drop l.transform-index l.transform-items) l.schema r us v
      → InOrder (OfMember g.O.Transform.makes) l.fn.transforms.items l.fn.schema r (take l.transform-index l.transform-items ++ us) v;
}
