-- No variant before refers to an unknown row.
use Rattle.std.proofs.Common.{◌≡◌, drop, nat_le, find, map}
use Rattle.schemars_shapes.specs.Shape.{variant_numbers}
use Rattle.schemars_shapes.proofs.edges.variant.first_unknown_in.Given as goal

abbrev pub invariant-loop-variant : goal.invariant-loop-variant
invariant-loop-variant g l =
    find (λ n. nat_le l.len n) (variant_numbers (map g.V.AnyVariant.says (drop l.variant-index l.variants)))
    ≡ find (λ n. nat_le l.len n) (variant_numbers (map g.V.AnyVariant.says l.variants))
