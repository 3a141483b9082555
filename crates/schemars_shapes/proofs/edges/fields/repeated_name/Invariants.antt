-- The names before, and those of the fields that are left.
use Rattle.std.proofs.Common.{◌≡◌, ◌++◌, map, drop}
use Rattle.schemars_shapes.proofs.Words.{field_of}
use Rattle.schemars_shapes.proofs.FieldRows.{now_of}
use Rattle.schemars_shapes.proofs.edges.fields.repeated_name.Given as goal

abbrev pub invariant-loop-field : goal.invariant-loop-field
invariant-loop-field l =
    map now_of l.names.items ++ map (λ f. f.name) (map field_of (drop l.field-index l.fields.list.items))
    ≡ map (λ f. f.name) (map field_of l.fields.list.items)
