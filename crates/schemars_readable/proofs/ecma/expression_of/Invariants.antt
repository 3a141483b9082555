-- The expression so far, and the place, are those of the characters so far.
use Rattle.std.proofs.Common.{◌≡◌, string_bytes}
use Rattle.schemars_readable.proofs.Words.{written_from, place_after}
use Rattle.schemars_readable.specs.declared.ecma.Place.TheVariants.{Outside}
use Rattle.schemars_readable.proofs.ecma.expression_of.Given as goal

abbrev pub invariant-loop-c : goal.invariant-loop-c
invariant-loop-c l =
    (string_bytes l.expression ≡ written_from Outside l.yielded) × (l.place ≡ place_after Outside l.yielded)
