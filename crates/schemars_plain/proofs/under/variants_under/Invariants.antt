-- The variants that are left decide.
use Rattle.std.proofs.Common.{drop, map}
use Rattle.schemars_plain.proofs.Words.{◌↔◌, variant_parts, ArePartsUnder}
use Rattle.schemars_plain.proofs.under.variants_under.Given as goal

abbrev pub invariant-loop-variant : goal.invariant-loop-variant
invariant-loop-variant g l =
    ArePartsUnder l.contract l.types (variant_parts (map g.V.AnyVariant.says (drop l.variant-index l.variants)))
    ↔ ArePartsUnder l.contract l.types (variant_parts (map g.V.AnyVariant.says l.variants))
