-- The names so far, and those of the variants that are left.
use Rattle.std.proofs.Common.{◌≡◌, ◌++◌, map, drop}
use Rattle.schemars_plain.proofs.variants.variant_names.Given as goal

abbrev pub invariant-loop-variant : goal.invariant-loop-variant
invariant-loop-variant g l =
    map (λ n. n.now) l.names.items ++ map (λ x. x.name) (map g.V.AnyVariant.says (drop l.variant-index l.variants))
    ≡ map (λ x. x.name) (map g.V.AnyVariant.says l.variants)
