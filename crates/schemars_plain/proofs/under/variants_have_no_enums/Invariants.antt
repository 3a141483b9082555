-- The variants that are left decide.
use Rattle.std.proofs.Common.{drop, map}
use Rattle.schemars_plain.proofs.Words.{◌↔◌, VariantsHaveNoEnums}
use Rattle.schemars_plain.proofs.under.variants_have_no_enums.Given as goal

abbrev pub invariant-loop-variant : goal.invariant-loop-variant
invariant-loop-variant g l =
    VariantsHaveNoEnums l.types (map g.V.AnyVariant.says (drop l.variant-index l.variants))
    ↔ VariantsHaveNoEnums l.types (map g.V.AnyVariant.says l.variants)
