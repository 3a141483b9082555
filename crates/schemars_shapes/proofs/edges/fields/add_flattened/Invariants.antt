-- The numbers so far, and those of the rows that are left.
use Rattle.std.proofs.Common.{◌≡◌, ◌++◌, map, drop}
use Rattle.schemars_shapes.specs.Shape.{flattened_of}
use Rattle.schemars_shapes.proofs.edges.fields.add_flattened.Given as goal

abbrev pub invariant-loop-flattened : goal.invariant-loop-flattened
invariant-loop-flattened l =
    l.numbers.items ++ map (λ p. p.ty) (map flattened_of (drop l.flattened-index l.fields.flatten.items))
    ≡ l.fn.numbers.items ++ map (λ p. p.ty) (map flattened_of l.fields.flatten.items)
