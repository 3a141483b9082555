-- The names that are left are still to be added.
use Rattle.std.proofs.Common.{◌≡◌, [], None, false, map, drop}
use Rattle.schemars_types.proofs.Words.{variant_of, keys, options_of, adding}
use Rattle.schemars_types.proofs.keys.add_names.Given as goal

abbrev pub invariant-loop-variant : goal.invariant-loop-variant
invariant-loop-variant l =
    adding (options_of l.options)
    (keys false (map (λ x. x.name) (map variant_of (drop l.variant-index l.variants))) None [])
    ≡ adding (options_of l.fn.options) (keys false (map (λ x. x.name) (map variant_of l.variants)) None [])
