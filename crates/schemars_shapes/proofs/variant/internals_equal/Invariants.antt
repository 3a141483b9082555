-- How far two lists of variants have been compared.
use Rattle.std.proofs.Common.{◌≡◌, drop, map}
use Rattle.schemars_shapes.proofs.Words.{iter_rest, internal_variant_of, variants_eq}
use Rattle.schemars_shapes.proofs.variant.internals_equal.Given as goal

abbrev pub invariant-loop-variant : goal.invariant-loop-variant
invariant-loop-variant l = variants_eq (map internal_variant_of (drop l.variant-index l.a)) (map internal_variant_of (iter_rest l.others))
    ≡ variants_eq (map internal_variant_of l.a) (map internal_variant_of l.b)
