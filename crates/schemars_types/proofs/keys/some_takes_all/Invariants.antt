-- The members that are left decide.
use Rattle.std.proofs.Common.{◌≡◌, map, drop}
use Rattle.schemars_types.proofs.Words.{variant_of, all_options, some_takes_all}
use Rattle.schemars_types.proofs.keys.some_takes_all.Given as goal

abbrev pub invariant-loop-variant : goal.invariant-loop-variant
invariant-loop-variant l =
    some_takes_all (all_options l.types) (map variant_of (drop l.variant-index l.variants))
    ≡ some_takes_all (all_options l.types) (map variant_of l.variants)
