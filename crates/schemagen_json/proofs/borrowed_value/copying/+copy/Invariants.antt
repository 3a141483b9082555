-- The copies so far are those of the first items, or members.
use Rattle.std.proofs.Common.{◌≡◌, take, map}
use Rattle.schemagen_json.proofs.Words.{view, members_view, data_of, members_data}
use Rattle.schemagen_json.proofs.borrowed_value.copying.+copy.Given as goal

abbrev pub invariant-copy_items-loop-item : goal.invariant-copy_items-loop-item
invariant-copy_items-loop-item l = map view l.copies.items ≡ map data_of (take l.item-index l.items)

abbrev pub invariant-copy_members-loop-name : goal.invariant-copy_members-loop-name
invariant-copy_members-loop-name l = members_view l.copies.entries ≡ members_data (take l.name-index l.members)
