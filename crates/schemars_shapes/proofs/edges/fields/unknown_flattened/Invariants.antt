-- No row before is unknown.
use Rattle.std.proofs.Common.{◌≡◌, drop, nat_le, find, map}
use Rattle.schemars_shapes.specs.Shape.{flattened_of}
use Rattle.schemars_shapes.proofs.edges.fields.unknown_flattened.Given as goal

abbrev pub invariant-loop-flattened : goal.invariant-loop-flattened
invariant-loop-flattened l =
    find (λ n. nat_le l.len n) (map (λ p. p.ty) (map flattened_of (drop l.flattened-index l.fields.flatten.items)))
    ≡ find (λ n. nat_le l.len n) (map (λ p. p.ty) (map flattened_of l.fields.flatten.items))
