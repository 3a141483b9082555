-- What was read and what is left make the whole.
use Rattle.std.proofs.Common.{◌≡◌, drop}
use Rattle.schemagen_input.proofs.Words.{option_map, items_view, members_view, items_input, members_input}
use Rattle.schemagen_input.proofs.Samples.{examples_before, entries_before}
use Rattle.schemagen_input.proofs.sample.+sample.Given as goal

abbrev pub invariant-read_items-loop-item : goal.invariant-read_items-loop-item
invariant-read_items-loop-item l =
    option_map (examples_before l.samples.items) (items_input (items_view (drop l.item-index l.items)))
    ≡ items_input (items_view l.items)

abbrev pub invariant-read_members-loop-key : goal.invariant-read_members-loop-key
invariant-read_members-loop-key l =
    option_map (entries_before l.entries.items) (members_input (members_view l.key-iterator))
    ≡ members_input (members_view l.members.entries)
