-- The numbers so far, and then those that the rest says.
use Rattle.std.proofs.Common.{◌≡◌, ◌++◌, drop, option_map}
use Rattle.schemagen_shapes.proofs.Words.{items_data, number_in, read_each}
use Rattle.schemagen_shapes.proofs.members.numbers_in.Given as goal

abbrev pub invariant-loop-value : goal.invariant-loop-value
invariant-loop-value l = read_each number_in (items_data l.values) ≡ option_map (λ ns. l.numbers.items ++ ns)
    (read_each number_in (items_data (drop l.value-index l.values)))
