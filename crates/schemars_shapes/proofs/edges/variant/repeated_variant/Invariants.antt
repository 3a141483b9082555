-- The names before, and those of the variants that are left.
use Rattle.std.proofs.Common.{◌≡◌, ◌++◌, map, drop}
use Rattle.schemars_shapes.proofs.FieldRows.{now_of}
use Rattle.schemars_shapes.proofs.edges.variant.repeated_variant.Given as goal

abbrev pub invariant-loop-variant : goal.invariant-loop-variant
invariant-loop-variant g l =
    map now_of l.names.items ++ map (λ x. x.name) (map g.V.AnyVariant.says (drop l.variant-index l.variants))
    ≡ map (λ x. x.name) (map g.V.AnyVariant.says l.variants)
