-- The properties so far, and those of the fields that are left.
use Rattle.std.proofs.Common.{◌≡◌, ◌++◌, map, drop}
use Rattle.schemars_documents.proofs.Words.{field_of, property_view, property}
use Rattle.schemars_documents.proofs.shape.maps.properties.Given as goal

abbrev pub invariant-loop-field : goal.invariant-loop-field
invariant-loop-field l =
    map property_view l.properties.items ++ map property (map field_of (drop l.field-index l.fields))
    ≡ map property (map field_of l.fields)
