-- The members so far go before those that the rest says.
use Rattle.std.proofs.Common.{◌≡◌, ℕ, ◌≤◌, length}
use Rattle.schemagen_input.proofs.Words.{members, value, Members, no_members, of_members, converted}
use Rattle.schemagen_input.proofs.tokens.object.read_members.Given as goal

abbrev pub invariant-keys : goal.invariant-keys
invariant-keys g l =
    (n : ℕ) × (ms : Members) × (length l.reader ≤ n)
    × (converted (λ found. of_members found no_members) (members (value l.depth) (length l.initial.reader) l.initial.reader)
    ≡ converted (λ found. of_members found ms) (members (value l.depth) n l.reader))
    × g.M.ObjectMembers.are_of l.found ms × (length l.reader ≤ length l.initial.reader)

abbrev pub decreases-keys : goal.decreases-keys
decreases-keys g l = length l.reader
