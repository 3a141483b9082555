-- How far two lists of flattened rows have been compared.
use Rattle.std.proofs.Common.{◌≡◌, drop, map}
use Rattle.schemars_shapes.proofs.Words.{iter_rest, pointwise, flattened_of, flattened_eq}
use Rattle.schemars_shapes.proofs.shape.flattened_equal.Given as goal

abbrev pub invariant-loop-flattened : goal.invariant-loop-flattened
invariant-loop-flattened l = pointwise flattened_eq (map flattened_of (drop l.flattened-index l.a)) (map flattened_of (iter_rest l.others))
    ≡ pointwise flattened_eq (map flattened_of l.a) (map flattened_of l.b)
