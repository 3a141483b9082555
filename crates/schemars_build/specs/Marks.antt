-- The rows that are pending as the program holds them: their list, and a mark for each row of the table.
use Rattle.std.specs.Prelude.{◌≡◌, ℕ, List, Some, slice_get}

-- the mark of each row in the list is its place there; what other rows are marked with may be anything
abbrev pub AreMarked : List ℕ → List ℕ → Type 0
AreMarked rows marks = (i n : ℕ) → slice_get rows i ≡ Some n → slice_get marks n ≡ Some i
