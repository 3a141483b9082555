-- The rows so far are listed.
use Rattle.std.proofs.Common.{map, take}
use Rattle.schemagen_input.proofs.Words.{data_of, AreBegun}
use Rattle.schemagen_input.proofs.listing.list_rows.Given as goal

abbrev pub invariant-loop-value : goal.invariant-loop-value
invariant-loop-value l = AreBegun l.listing (map data_of (take l.value-index l.rows))
