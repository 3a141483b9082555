-- The items so far go before those that the rest says, and their rows are listed.
use Rattle.std.proofs.Common.{◌≡◌, ℕ, ◌≤◌, List, length}
use Rattle.schemagen_input.proofs.Words.{items, value, parse_map, Data, of_items, converted, items_before, AreBegun}
use Rattle.schemagen_input.proofs.table_members.read_items.Given as goal

abbrev pub invariant-items : goal.invariant-items
invariant-items l =
    (n : ℕ) × (ds : List Data) × (length l.reader ≤ n)
    × (converted of_items (items (value l.depth) (length l.initial.reader) l.initial.reader)
    ≡ parse_map (items_before ds) (converted of_items (items (value l.depth) n l.reader)))
    × AreBegun l.listing ds × (length l.reader ≤ length l.initial.reader)

abbrev pub decreases-items : goal.decreases-items
decreases-items l = length l.reader
