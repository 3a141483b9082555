-- What is left is still to be added.
use Rattle.std.proofs.Common.{◌≡◌, ◌++◌, option_map, map, drop}
use Rattle.schemars_sample.proofs.Words.{no_members, view, members_view, examples_view, entries_view, items_json, entries_json}
use Rattle.schemars_sample.proofs.json.+json.Given as goal

abbrev pub invariant-array_of-loop-item : goal.invariant-array_of-loop-item
invariant-array_of-loop-item l =
    option_map (λ ds. map view l.values.items ++ ds) (items_json (examples_view (drop l.item-index l.items)))
    ≡ items_json (examples_view l.items)

abbrev pub invariant-object_of-loop-key : goal.invariant-object_of-loop-key
invariant-object_of-loop-key l =
    entries_json (entries_view (drop l.key-index l.entries)) (members_view l.members.entries)
    ≡ entries_json (entries_view l.entries) no_members
