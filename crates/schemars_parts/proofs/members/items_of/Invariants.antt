-- The parts so far, and then the values that are left, are all.
use Rattle.std.proofs.Common.{◌≡◌, ◌++◌, map, drop}
use Rattle.schemars_parts.proofs.Words.{view, assembled_view}
use Rattle.schemars_parts.proofs.members.items_of.Given as goal

abbrev pub invariant-loop-value : goal.invariant-loop-value
invariant-loop-value l = map assembled_view l.parts.items ++ map view (drop l.value-index l.values.items) ≡ map view l.values.items
