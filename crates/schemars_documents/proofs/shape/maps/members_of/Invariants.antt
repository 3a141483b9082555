-- What is asked so far, and what is asked of the rows that are left.
use Rattle.std.proofs.Common.{◌≡◌, ◌++◌, map, drop}
use Rattle.schemars_documents.proofs.Words.{flattened_of, ask_of, members_asked}
use Rattle.schemars_documents.proofs.shape.maps.members_of.Given as goal

abbrev pub invariant-loop-part : goal.invariant-loop-part
invariant-loop-part l =
    map ask_of l.members.items ++ map (members_asked l.contract) (map flattened_of (drop l.part-index l.flatten))
    ≡ map (members_asked l.contract) (map flattened_of l.flatten)
