-- The items that are left decide.
use Rattle.std.proofs.Common.{◌≡◌, drop}
use Rattle.schemars_assertions.proofs.Words.{items_view, are_distinct}
use Rattle.schemars_assertions.proofs.arrays.are_distinct.Given as goal

abbrev pub invariant-loop-n : goal.invariant-loop-n
invariant-loop-n l = are_distinct (items_view (drop l.n l.items)) ≡ are_distinct (items_view l.items)
