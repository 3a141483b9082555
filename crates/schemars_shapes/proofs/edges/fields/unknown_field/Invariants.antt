-- No field before refers to an unknown row.
use Rattle.std.proofs.Common.{◌≡◌, drop, nat_le, find, map}
use Rattle.schemars_shapes.specs.Shape.{field_of}
use Rattle.schemars_shapes.proofs.edges.fields.unknown_field.Given as goal

abbrev pub invariant-loop-field : goal.invariant-loop-field
invariant-loop-field l =
    find (λ n. nat_le l.len n) (map (λ f. f.ty) (map field_of (drop l.field-index l.fields.list.items)))
    ≡ find (λ n. nat_le l.len n) (map (λ f. f.ty) (map field_of l.fields.list.items))
