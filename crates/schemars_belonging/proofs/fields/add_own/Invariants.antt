-- The members so far, and those of the fields that are left.
use Rattle.std.proofs.Common.{◌≡◌, ◌++◌, map, drop}
use Rattle.schemars_belonging.proofs.Words.{field_of, fields_of, given_of, field_given}
use Rattle.schemars_belonging.proofs.fields.add_own.Given as goal

abbrev pub invariant-loop-field : goal.invariant-loop-field
invariant-loop-field l =
    map given_of l.found.items ++ map (field_given l.needed l.contract) (map field_of (drop l.field-index l.field-items))
    ≡ map given_of l.fn.found.items ++ map (field_given l.needed l.contract) (fields_of l.fields).list
