-- The items so far go before those that the rest says, and what they say is in the list.
use Rattle.std.proofs.Common.{◌≡◌, ℕ, ◌≤◌, List, length, map, option_map}
use Rattle.schemagen_input.proofs.Words.{items, value, parse_map, Data, of_items, converted, items_of, items_before, read_each}
use Rattle.schemagen_input.proofs.tokens.said.read_items.Given as goal

abbrev pub invariant-items : goal.invariant-items
invariant-items g l =
    (n : ℕ) × (ds : List Data) × (length l.reader ≤ n)
    × (converted of_items (items (value l.depth) (length l.initial.reader) l.initial.reader)
    ≡ parse_map (items_before ds) (converted of_items (items (value l.depth) n l.reader)))
    × (option_map (λ v. map g.T.Said.value_of v.items) l.found ≡ read_each g.T.Said.said (items_of ds)) × (length l.reader ≤ length l.initial.reader)

abbrev pub decreases-items : goal.decreases-items
decreases-items g l = length l.reader
