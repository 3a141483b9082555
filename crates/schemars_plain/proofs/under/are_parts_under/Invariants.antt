-- The rows that are left decide.
use Rattle.std.proofs.Common.{drop, map}
use Rattle.schemars_plain.proofs.Words.{◌↔◌, flattened_of, ArePartsUnder}
use Rattle.schemars_plain.proofs.under.are_parts_under.Given as goal

abbrev pub invariant-loop-part : goal.invariant-loop-part
invariant-loop-part l =
    ArePartsUnder l.contract l.types (map flattened_of (drop l.part-index l.parts))
    ↔ ArePartsUnder l.contract l.types (map flattened_of l.parts)
