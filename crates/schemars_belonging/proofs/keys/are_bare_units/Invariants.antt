-- The variants that are left decide.
use Rattle.std.proofs.Common.{◌≡◌, drop, map}
use Rattle.schemars_belonging.proofs.Words.{list_all, variant_of, is_bare_unit}
use Rattle.schemars_belonging.proofs.keys.are_bare_units.Given as goal

abbrev pub invariant-loop-variant : goal.invariant-loop-variant
invariant-loop-variant l =
    list_all is_bare_unit (map variant_of (drop l.variant-index l.variants)) ≡ list_all is_bare_unit (map variant_of l.variants)
