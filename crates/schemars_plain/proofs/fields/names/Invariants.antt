-- The names so far, and those of the fields that are left.
use Rattle.std.proofs.Common.{◌≡◌, ◌++◌, map, drop}
use Rattle.schemars_shapes.specs.Shape.{field_of}
use Rattle.schemars_plain.proofs.fields.names.Given as goal

abbrev pub invariant-loop-field : goal.invariant-loop-field
invariant-loop-field l =
    map (λ n. n.now) l.names.items ++ map (λ f. f.name) (map (λ f. field_of f.now) (drop l.field-index l.fields))
    ≡ map (λ f. f.name) (map (λ f. field_of f.now) l.fields)
