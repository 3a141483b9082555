-- The variants that are left decide.
use Rattle.std.proofs.Common.{drop, map}
use Rattle.schemars_plain.proofs.Words.{◌↔◌, flattened_in, part_enums, expanded_variant, ArePlainVariants}
use Rattle.schemars_plain.proofs.variants.are_plain_variants.Given as goal

abbrev pub invariant-loop-variant : goal.invariant-loop-variant
invariant-loop-variant g l =
    ArePlainVariants (map (expanded_variant (flattened_in l.types) (part_enums l.types))
    (map g.V.AnyVariant.says (drop l.variant-index l.variants)))
    ↔ ArePlainVariants (map (expanded_variant (flattened_in l.types) (part_enums l.types)) (map g.V.AnyVariant.says l.variants))
