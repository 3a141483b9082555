-- Lists that are read item by item.
use Rattle.std.proofs.Common.{◌≡◌, ◌++◌, ℕ, List, Option, drop, map, option_map}
use Rattle.schemagen_shapes.proofs.Words.{Data, items_data, read_each}
use Rattle.schemagen_json.specs.declared.borrowed_value.BorrowedValue.{BorrowedValue}

-- what the first `n` items said is in the list, and the rest are still to be read
abbrev pub IsReadSoFar : {A M : Type 0} → (A → M) → (Data → Option M) → List BorrowedValue → ℕ → List A → Type 0
IsReadSoFar model says items n done =
    read_each says (items_data items) ≡ option_map (λ xs. map model done ++ xs) (read_each says (items_data (drop n items)))
