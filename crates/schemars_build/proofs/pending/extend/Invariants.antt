-- The marks that are there stay.
use Rattle.std.proofs.Common.{◌≡◌, ◌-◌, ℕ, suc, length, Some, slice_get}
use Rattle.schemars_build.proofs.pending.extend.Given as goal

abbrev pub invariant-growing : goal.invariant-growing
invariant-growing l = (m i : ℕ) → slice_get l.initial.marks.items m ≡ Some i → slice_get l.marks.items m ≡ Some i

abbrev pub decreases-growing : goal.decreases-growing
decreases-growing l = suc l.n - length l.marks.items
