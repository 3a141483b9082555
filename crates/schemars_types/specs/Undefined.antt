-- Rows that were never defined.
use Rattle.std.specs.Prelude.{◌≡◌, ◌<◌, ℕ, List, length, None}
use Rattle.schemars_types.specs.Rows.{Row, entry_at}

-- row n is in the table and has no entry
abbrev pub IsUndefined : List Row → ℕ → Type 0
IsUndefined rows n = (n < length rows) × (entry_at rows n ≡ None)
