-- The names that are left decide.
use Rattle.std.proofs.Common.{◌≡◌, drop}
use Rattle.schemars_plain.proofs.Words.{array, items_view, is_null_type}
use Rattle.schemars_plain.proofs.literal.are_null_types.Given as goal

abbrev pub invariant-loop-name : goal.invariant-loop-name
invariant-loop-name l = is_null_type (array (items_view (drop l.name-index l.names))) ≡ is_null_type (array (items_view l.names))
