-- The rows below are asked one step less deep.
use Rattle.std.proofs.Common.{◌≡◌, ◌+◌, ◌*◌, ◌++◌, map, drop}
use Rattle.schemars_belonging.proofs.Words.{fields_of, flattened_of, fields_within, effective, flattened_fields, part_fields, given_of, field_given}
use Rattle.schemars_belonging.proofs.fields.+fields.Given as goal

abbrev pub decreases-add_fields : goal.decreases-add_fields
decreases-add_fields l = 2 * l.steps + 1

abbrev pub decreases-add_row : goal.decreases-add_row
decreases-add_row l = 2 * l.steps

abbrev pub invariant-add_fields-loop-part : goal.invariant-add_fields-loop-part
invariant-add_fields-loop-part l =
    map given_of l.found.items
    ++ map (field_given l.needed l.contract) (flattened_fields (part_fields l.types (fields_within l.types l.steps))
    (map flattened_of (drop l.part-index l.part-items)))
    ≡ map given_of l.fn.found.items
    ++ map (field_given l.needed l.contract) (effective (part_fields l.types (fields_within l.types l.steps)) (fields_of l.fields))
