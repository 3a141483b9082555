-- The variants that are left decide.
use Rattle.std.proofs.Common.{◌≡◌, map, drop}
use Rattle.schemars_types.proofs.Words.{list_all, variant_of, is_bare_unit, are_names}
use Rattle.schemars_types.proofs.keys.are_names.Given as goal

abbrev pub invariant-loop-variant : goal.invariant-loop-variant
invariant-loop-variant l =
    list_all is_bare_unit (map variant_of (drop l.variant-index l.variants)) ≡ are_names (map variant_of l.variants)
