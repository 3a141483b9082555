-- No enum is flattened into the rows before.
use Rattle.std.proofs.Common.{ℕ, ◌<◌}
use Rattle.schemars_plain.proofs.Words.{entry_at, EntryFlattensNoEnums}
use Rattle.schemars_plain.proofs.simple.flattens_no_enums.Given as goal

abbrev pub invariant-loop-n : goal.invariant-loop-n
invariant-loop-n l =
    (k : ℕ) → k < l.n → EntryFlattensNoEnums l.types (entry_at l.types k)
