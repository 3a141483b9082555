-- The edges of a table by their kind.
use Rattle.std.specs.Prelude.{◌≡◌, ◌<◌, ◌≤◌, ◌⊎◌, ℕ, ◌+◌, List, [], ◌++◌, filter, Contains}
use Rattle.schemars_types.specs.Rows.{Row}
use Rattle.schemars_types.specs.LaterRows.{counted_from}
use Rattle.schemars_types.specs.Edges.{numbers_at, is_inline_at, asked_at, is_row, same_value_numbers_at}
use Rattle.schemars_types.specs.declared.check.faults.EdgeKind.{EdgeKind}
use Rattle.schemars_types.specs.declared.check.faults.EdgeKind.TheVariants.{Direct, SameValue}

-- the rows to which edges of this kind lead from row n
abbrev pub targets_along : EdgeKind → List Row → ℕ → List ℕ
targets_along Direct rows n = filter (is_inline_at rows) (numbers_at rows n) ++ filter (is_row rows) (asked_at rows n)
targets_along SameValue rows n = filter (is_row rows) (same_value_numbers_at rows n)

-- the edges of this kind between the rows from row `from` on, all counted from there
abbrev pub targets_from : EdgeKind → ℕ → List Row → ℕ → List ℕ
targets_from kind from rows n = counted_from from (targets_along kind rows (from + n))

-- row m is above row n, or below row `from`, or refers to no row
pub record LeadsOn (rows : List Row) (from n m : ℕ) : Type 0 where
  pub on : from ≤ m → (n < m) ⊎ (numbers_at rows m ≡ [])

-- each edge of this kind from a row from row `from` on leads to such a row
pub record Ascends (kind : EdgeKind) (rows : List Row) (from : ℕ) : Type 0 where
  pub leads : (n m : ℕ) → from ≤ n → Contains (targets_along kind rows n) m → LeadsOn rows from n m
