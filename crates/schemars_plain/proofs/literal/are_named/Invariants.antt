-- The names that are left decide.
use Rattle.std.proofs.Common.{◌≡◌, drop}
use Rattle.schemars_plain.proofs.Words.{is_some, array, items_view, types_in}
use Rattle.schemars_plain.proofs.literal.are_named.Given as goal

abbrev pub invariant-loop-name : goal.invariant-loop-name
invariant-loop-name l = is_some (types_in (array (items_view (drop l.name-index l.names)))) ≡ is_some (types_in (array (items_view l.names)))
