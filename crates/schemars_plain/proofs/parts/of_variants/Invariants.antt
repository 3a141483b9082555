-- The variants that are left decide.
use Rattle.std.proofs.Common.{drop, map}
use Rattle.schemars_plain.proofs.Words.{◌↔◌, variant_parts, ArePlainParts}
use Rattle.schemars_plain.proofs.parts.of_variants.Given as goal

abbrev pub invariant-loop-variant : goal.invariant-loop-variant
invariant-loop-variant g l =
    ArePlainParts l.types (variant_parts (map g.V.AnyVariant.says (drop l.variant-index l.variants)))
    ↔ ArePlainParts l.types (variant_parts (map g.V.AnyVariant.says l.variants))
