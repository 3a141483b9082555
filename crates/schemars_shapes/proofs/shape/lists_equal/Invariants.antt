-- How far two lists of fields have been compared.
use Rattle.std.proofs.Common.{◌≡◌, drop, map}
use Rattle.schemars_shapes.proofs.Words.{iter_rest, field_of, list_eq}
use Rattle.schemars_shapes.proofs.shape.lists_equal.Given as goal

abbrev pub invariant-loop-field : goal.invariant-loop-field
invariant-loop-field l = list_eq (map field_of (drop l.field-index l.a)) (map field_of (iter_rest l.others))
    ≡ list_eq (map field_of l.a) (map field_of l.b)
