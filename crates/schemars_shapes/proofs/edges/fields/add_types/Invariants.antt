-- The numbers so far, and those of the fields that are left.
use Rattle.std.proofs.Common.{◌≡◌, ◌++◌, map, drop}
use Rattle.schemars_shapes.specs.Shape.{field_of}
use Rattle.schemars_shapes.proofs.edges.fields.add_types.Given as goal

abbrev pub invariant-loop-field : goal.invariant-loop-field
invariant-loop-field l =
    l.numbers.items ++ map (λ f. f.ty) (map field_of (drop l.field-index l.fields.list.items))
    ≡ l.fn.numbers.items ++ map (λ f. f.ty) (map field_of l.fields.list.items)
