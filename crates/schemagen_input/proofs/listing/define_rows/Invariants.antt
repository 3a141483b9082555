-- The first entries are in the table, and the others are left.
use Rattle.std.proofs.Common.{◌≡◌, List, ◌++◌, map, length}
use Rattle.schemagen_input.proofs.Words.{Entry, entry_of}
use Rattle.schemagen_input.proofs.RowByRow.{AreDefined}
use Rattle.schemagen_input.proofs.listing.define_rows.Given as goal

abbrev pub invariant-loop-entry : goal.invariant-loop-entry
invariant-loop-entry l =
    (es : List Entry) × AreDefined l.fn.types es l.types × (l.n ≡ length es)
    × (map entry_of l.fn.entries.items ≡ es ++ map entry_of l.entry-iterator.rest.items)
