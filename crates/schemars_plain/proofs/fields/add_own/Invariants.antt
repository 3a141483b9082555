-- The fields so far, and those that are left.
use Rattle.std.proofs.Common.{◌≡◌, ◌++◌, map, drop}
use Rattle.schemars_plain.proofs.Words.{field_of, fields_of, as_said}
use Rattle.schemars_plain.proofs.fields.add_own.Given as goal

abbrev pub invariant-loop-field : goal.invariant-loop-field
invariant-loop-field l =
    map as_said (map (λ f. field_of f.now) l.found.items) ++ map as_said (map field_of (drop l.field-index l.field-items))
    ≡ map as_said (map (λ f. field_of f.now) l.fn.found.items) ++ map as_said (fields_of l.fields).list
