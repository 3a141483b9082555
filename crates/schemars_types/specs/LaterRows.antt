-- The faults and the edges of a table from one of its rows on.
use Rattle.std.specs.Prelude.{◌≡◌, ◌<◌, ◌≤◌, ◌-◌, ℕ, List, length, map, filter, nat_le}
use Rattle.schemars_cycles.specs.Search.{Graph, targets_in}

-- the same faults and the same edges, of numbers from `from` on alone
abbrev pub FaultFrom : ℕ → (ℕ → Type 0) → ℕ → Type 0
FaultFrom from Fault n = (from ≤ n) × Fault n

abbrev pub EdgeFrom : ℕ → (ℕ → ℕ → Type 0) → ℕ → ℕ → Type 0
EdgeFrom from Edge n m = (from ≤ n) × (from ≤ m) × Edge n m

-- those of these numbers that are not below `from`, counted from there
abbrev pub counted_from : ℕ → List ℕ → List ℕ
counted_from from ns = map (λ n. n - from) (filter (nat_le from) ns)

-- a list of this length has these targets
pub record HasTargets (targets : ℕ → List ℕ) (len : ℕ) (graph : Graph) : Type 0 where
  pub len_is : length graph ≡ len
  pub at : (n : ℕ) → n < len → targets_in graph n ≡ targets n
