-- Whatever comes after the branches from here comes after all of them.
use Rattle.std.proofs.Common.{drop, map}
use Rattle.serde.specs.Event.{Log}
use Rattle.example_agreement.specs.Trees.{tree_view, branches_of, SendsBranches}
use Rattle.example_agreement.proofs.tree.+send.Given as goal

abbrev pub invariant-send_children-loop-child : goal.invariant-send_children-loop-child
invariant-send_children-loop-child g l =
    (end : Log) → SendsBranches (branches_of (map tree_view (drop l.child-index l.child-items))) (g.S.Serializer.written l.out) end
    → SendsBranches (branches_of (map tree_view l.child-items)) (g.S.Serializer.written l.initial.out) end
