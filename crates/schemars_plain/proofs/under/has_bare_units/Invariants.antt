-- The variants that are left decide.
use Rattle.std.proofs.Common.{drop, map}
use Rattle.schemars_plain.proofs.Words.{◌↔◌, HasBareUnits}
use Rattle.schemars_plain.proofs.under.has_bare_units.Given as goal

abbrev pub invariant-loop-variant : goal.invariant-loop-variant
invariant-loop-variant g l =
    HasBareUnits (map g.V.AnyVariant.says (drop l.variant-index l.variants)) ↔ HasBareUnits (map g.V.AnyVariant.says l.variants)
