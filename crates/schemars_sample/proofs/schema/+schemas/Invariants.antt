-- What is left is still to be added, or to be compared.
use Rattle.std.proofs.Common.{◌≡◌, ◌++◌, [], option_map, map, drop}
use Rattle.schemars_sample.proofs.Words.{no_members, view, members_view, examples_view, entries_view, item_schemas, entry_schemas, value_schemas, one_beside, shared_by}
use Rattle.schemars_sample.proofs.Seen.{with_seen}
use Rattle.schemars_sample.proofs.schema.+schemas.Given as goal

abbrev pub invariant-schema_of_each-loop-item : goal.invariant-schema_of_each-loop-item
invariant-schema_of_each-loop-item l =
    one_beside (map view l.seen.items) (item_schemas (examples_view (drop l.item-index l.items)))
    ≡ one_beside [] (item_schemas (examples_view l.items))

abbrev pub invariant-tuple_schema-loop-part : goal.invariant-tuple_schema-loop-part
invariant-tuple_schema-loop-part l =
    map view l.schemas.items ++ item_schemas (examples_view (drop l.part-index l.parts))
    ≡ item_schemas (examples_view l.parts)

abbrev pub invariant-struct_schema-loop-key : goal.invariant-struct_schema-loop-key
invariant-struct_schema-loop-key l =
    entry_schemas (entries_view (drop l.key-index l.entries)) (members_view l.properties.entries)
    ≡ entry_schemas (entries_view l.entries) no_members

abbrev pub invariant-shared_schema-loop-sample : goal.invariant-shared_schema-loop-sample
invariant-shared_schema-loop-sample l =
    with_seen (option_map view l.shared) (value_schemas (entries_view (drop l.sample-index l.entries)))
    ≡ shared_by (value_schemas (entries_view l.entries))
