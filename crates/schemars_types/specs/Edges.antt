-- The edges of a table, as pairs of rows: a row refers to another.
use Rattle.std.specs.Prelude.{◌≡◌, ◌<◌, ◌⊎◌, ℕ, zero, suc, List, [], ◌∷◌, ◌++◌, length, filter, Contains, Bool, true, false, nat_lt, Option, option_and_then}
use Rattle.std.specs.Option.{option_map_or}
use Rattle.schemars_schema.specs.Json.{Text}
use Rattle.schemars_shapes.specs.Shape.{Shape, numbers_of, same_value_numbers, flattened_numbers, asked_numbers, option_of, names_of}
use Rattle.schemars_types.specs.Rows.{Row, entry_at}
use Rattle.schemars_cycles.specs.Walks.{longest}

-- the numbers in row n's entry; none where it has no entry
abbrev pub numbers_at : List Row → ℕ → List ℕ
numbers_at rows n = option_map_or (λ e. numbers_of e.shape) (entry_at rows n) []

-- every number in an entry is a row's
pub record RefersWithin (rows : List Row) : Type 0 where
  pub within : (n m : ℕ) → Contains (numbers_at rows n) m → m < length rows

abbrev pub is_inline_at : List Row → ℕ → Bool
is_inline_at rows n = option_map_or (λ e. e.inline) (entry_at rows n) false

-- the rows whose values, or whose members, row n has itself
abbrev pub same_value_numbers_at : List Row → ℕ → List ℕ
same_value_numbers_at rows n = option_map_or (λ e. same_value_numbers e.shape) (entry_at rows n) []

-- the row in row n, an Option
abbrev pub option_at : List Row → ℕ → Option ℕ
option_at rows n = option_and_then (λ e. option_of e.shape) (entry_at rows n)

-- the rows below row n through Options, down to the first that is none
abbrev pub below_within : List Row → ℕ → ℕ → List ℕ
below_within rows zero n = []
below_within rows (suc steps) n = option_map_or (λ m. m ∷ below_within rows steps m) (option_at rows n) []

abbrev pub below : List Row → ℕ → List ℕ
below rows n = below_within rows (length rows) n

abbrev pub below_all : List Row → List ℕ → List ℕ
below_all rows [] = []
below_all rows (n ∷ ns) = below rows n ++ below_all rows ns

-- The rows that a shape asks whether they are written in place or not: a map asks that of its keys, and others those whose
-- members are in their own maps. Of a flattened Option the rows below are asked too.
abbrev pub asked_in : List Row → Shape → List ℕ
asked_in rows s = asked_numbers s ++ below_all rows (flattened_numbers s)

abbrev pub asked_at : List Row → ℕ → List ℕ
asked_at rows n = option_map_or (λ e. asked_in rows e.shape) (entry_at rows n) []

-- row n asks row m at once: it refers to a row that is written in place, or asks it whatever its flag
abbrev pub DirectEdge : List Row → ℕ → ℕ → Type 0
DirectEdge rows n m =
    (Contains (numbers_at rows n) m × (is_inline_at rows m ≡ true)) ⊎ (Contains (asked_at rows n) m × (m < length rows))

-- row n has the values of row m, or its members
abbrev pub SameValueEdge : List Row → ℕ → ℕ → Type 0
SameValueEdge rows n m = Contains (same_value_numbers_at rows n) m × (m < length rows)

abbrev pub is_row : List Row → ℕ → Bool
is_row rows m = nat_lt m (length rows)

-- the ends of these edges
unfoldable pub direct_targets : List Row → ℕ → List ℕ
direct_targets rows n = filter (is_inline_at rows) (numbers_at rows n) ++ filter (is_row rows) (asked_at rows n)

unfoldable pub same_value_targets : List Row → ℕ → List ℕ
same_value_targets rows n = filter (is_row rows) (same_value_numbers_at rows n)

-- the most direct edges that can be followed from row n
unfoldable pub height : List Row → ℕ → ℕ
height rows n = longest (direct_targets rows) (length rows) n

-- the most same-value edges that can be followed from row n
unfoldable pub rank : List Row → ℕ → ℕ
rank rows n = longest (same_value_targets rows) (length rows) n

-- the lists of names in row n's entry: the keys of name and content, those of its fields, or of its variants and then of the fields
-- of each
abbrev pub names_at : List Row → ℕ → List (List Text)
names_at rows n = option_map_or (λ e. names_of e.shape) (entry_at rows n) []
