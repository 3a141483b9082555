-- The rows before are plain.
use Rattle.std.proofs.Common.{ℕ, ◌<◌}
use Rattle.schemars_plain.proofs.Words.{entry_at, IsPlainEntry}
use Rattle.schemars_plain.proofs.table.is_plain.Given as goal

abbrev pub invariant-loop-n : goal.invariant-loop-n
invariant-loop-n l =
    (k : ℕ) → k < l.n → IsPlainEntry l.types (entry_at l.types k)
