-- The rows before are plain under the contract.
use Rattle.std.proofs.Common.{ℕ, ◌<◌}
use Rattle.schemars_plain.proofs.Words.{entry_at, IsEntryUnder}
use Rattle.schemars_plain.proofs.under.is_plain_under.Given as goal

abbrev pub invariant-loop-n : goal.invariant-loop-n
invariant-loop-n l =
    (k : ℕ) → k < l.n → IsEntryUnder l.contract l.types (entry_at l.types k)
