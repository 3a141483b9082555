-- The root of a table is one of its rows, or it is no table.
use Rattle.std.proofs.Common.{◌≡◌, ◌<◌, ◌≤◌, ℕ, nat_lt, List, length, true, false, Some, None, subst, arith}
use Rattle.schemagen_input.proofs.Words.{nat_tests, Data, Row, is_complete, is_table, table_in, input_of}

below : (m n : ℕ) → m < n → nat_lt m n ≡ true
below m n h = grind (arith, nat_tests)

above : (m n : ℕ) → m ≤ n → nat_lt n m ≡ false
above m n h = grind (arith, nat_tests)

pub has_root : (rows : List Row) (root count : ℕ) → is_complete rows ≡ true → count ≡ length rows → root < count → is_table rows root ≡ true
has_root rows root count complete many within = rw (complete, below root (length rows) (omega (arith, many, within)))

pub is_input : (d : Data) (rows : List Row) (root count : ℕ) → table_in d ≡ Some (rows, root) → count ≡ length rows → root < count
    → input_of d ≡ Some (rows, root)
is_input d rows root count table many within = rw (table, below root (length rows) (omega (arith, many, within)))

pub is_no_input : (d : Data) (rows : List Row) (root count : ℕ) → table_in d ≡ Some (rows, root) → count ≡ length rows
    → count ≤ root → input_of d ≡ None
is_no_input d rows root count table many past = rw (table, above (length rows) root (subst (λ n. n ≤ root) many past))
