-- The variants that are left decide.
use Rattle.std.proofs.Common.{◌≡◌, drop, map}
use Rattle.schemars_belonging.proofs.Words.{is_listed, variant_of}
use Rattle.schemars_belonging.proofs.keys.is_name.Given as goal

abbrev pub invariant-loop-variant : goal.invariant-loop-variant
invariant-loop-variant l =
    is_listed l.key (map (λ x. x.name) (map variant_of (drop l.variant-index l.variants)))
    ≡ is_listed l.key (map (λ x. x.name) (map variant_of l.variants))
