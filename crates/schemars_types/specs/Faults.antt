-- The faults of a table, which of them is reported, and what a table without faults offers.
-- This file is trusted: the theorem is stated in its words.
use Rattle.std.specs.Prelude.{◌<◌, ◌≤◌, ℕ, List, length, IsSome, string_bytes}
use Rattle.schemars_schema.specs.Json.{Text}
use Rattle.schemars_types.specs.Rows.{Row, entry_at}
pub use Rattle.schemars_types.specs.Undefined.{IsUndefined}
use Rattle.schemars_cycles.specs.Walks.{OnCycle, IsFree, IsLeast}
use Rattle.schemars_shapes.specs.Repeated.{AreDistinctLists, IsFirstRepeated}
use Rattle.schemars_types.specs.Edges.{RefersWithin, DirectEdge, SameValueEdge, height, rank, names_at}
use Rattle.schemars_types.specs.declared.error.TypesError.{TypesError}
use Rattle.schemars_types.specs.declared.error.TypesError.TheVariants.{UndefinedType, RepeatedName, DirectCycle, EmptyCycle}

-- a list of names in row n's entry has one twice: its fields, its variants, or the keys of an adjacently tagged enum
abbrev pub HasRepeated : List Row → ℕ → Type 0
HasRepeated rows n = (name : Text) × IsFirstRepeated (names_at rows n) name

abbrev pub OnDirectCycle : List Row → ℕ → Type 0
OnDirectCycle rows n = OnCycle (DirectEdge rows) n

abbrev pub OnEmptyCycle : List Row → ℕ → Type 0
OnEmptyCycle rows n = OnCycle (SameValueEdge rows) n

-- a table without faults
pub record IsAccepted (rows : List Row) : Type 0 where
  pub defined : IsFree (IsUndefined rows)
  pub named : IsFree (HasRepeated rows)
  pub direct : IsFree (OnDirectCycle rows)
  pub empty : IsFree (OnEmptyCycle rows)

-- The fault that is reported: there is none of an earlier kind, and none of its kind at a lower row.
abbrev pub Refusal : List Row → TypesError → Type 0
Refusal rows (UndefinedType n) = IsLeast (IsUndefined rows) n
Refusal rows (RepeatedName n name) =
    IsFree (IsUndefined rows) × IsLeast (HasRepeated rows) n × IsFirstRepeated (names_at rows n) (string_bytes name)
Refusal rows (DirectCycle n) = IsFree (IsUndefined rows) × IsFree (HasRepeated rows) × IsLeast (OnDirectCycle rows) n
Refusal rows (EmptyCycle n) =
    IsFree (IsUndefined rows) × IsFree (HasRepeated rows) × IsFree (OnDirectCycle rows) × IsLeast (OnEmptyCycle rows) n
Refusal rows _ = ⊥

-- What follows for a table without faults: every row has its entry, whose numbers are those of rows, no name occurs twice in a list of
-- fields or of variants, and heights and ranks, which have a bound, fall along the edges.
pub record IsChecked (rows : List Row) : Type 0 where
  pub within : RefersWithin rows
  pub defined : (n : ℕ) → n < length rows → IsSome (entry_at rows n)
  pub names_differ : (n : ℕ) → AreDistinctLists (names_at rows n)
  pub height_bound : (n : ℕ) → height rows n ≤ length rows
  pub height_falls : (n m : ℕ) → DirectEdge rows n m → height rows m < height rows n
  pub rank_bound : (n : ℕ) → n < length rows → rank rows n < length rows
  pub rank_falls : (n m : ℕ) → SameValueEdge rows n m → rank rows m < rank rows n
