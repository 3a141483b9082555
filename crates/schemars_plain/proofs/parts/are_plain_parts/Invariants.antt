-- The rows that are left decide.
use Rattle.std.proofs.Common.{drop, map}
use Rattle.schemars_plain.proofs.Words.{◌↔◌, flattened_of, ArePlainParts}
use Rattle.schemars_plain.proofs.parts.are_plain_parts.Given as goal

abbrev pub invariant-loop-part : goal.invariant-loop-part
invariant-loop-part l =
    ArePlainParts l.types (map flattened_of (drop l.part-index l.parts)) ↔ ArePlainParts l.types (map flattened_of l.parts)
