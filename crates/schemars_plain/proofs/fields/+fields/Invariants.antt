-- The rows below are asked one step less deep.
use Rattle.std.proofs.Common.{◌≡◌, ◌+◌, ◌*◌, ◌++◌, map, drop}
use Rattle.schemars_plain.proofs.Words.{field_of, fields_of, flattened_of, fields_within, effective, flattened_fields, part_fields, as_said}
use Rattle.schemars_plain.proofs.fields.+fields.Given as goal

abbrev pub decreases-add_fields : goal.decreases-add_fields
decreases-add_fields l = 3 * l.steps + 1

abbrev pub decreases-add_row : goal.decreases-add_row
decreases-add_row l = 3 * l.steps

abbrev pub decreases-add_shape : goal.decreases-add_shape
decreases-add_shape l = 3 * l.steps + 2

abbrev pub invariant-add_fields-loop-part : goal.invariant-add_fields-loop-part
invariant-add_fields-loop-part l =
    map as_said (map (λ f. field_of f.now) l.found.items)
    ++ map as_said (flattened_fields (part_fields l.types (fields_within l.types l.steps))
    (map flattened_of (drop l.part-index l.part-items)))
    ≡ map as_said (map (λ f. field_of f.now) l.fn.found.items)
    ++ map as_said (effective (part_fields l.types (fields_within l.types l.steps)) (fields_of l.fields))
