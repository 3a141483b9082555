-- The rows that are asked in a row's document are among those that it refers to.
use Rattle.std.proofs.Common.{suc, List, [], ◌∷◌, Some, Contains, All, refl, subst, arith}
use Rattle.schemars_headline.proofs.Words.{Data, Entry, numbers_of, Basis, Ask, asks_of, entry_template, IsOwnDocument, row_asked, AreAnswered, all_asks, flattened_number, content_number}

asks_numbers : (basis : Basis) (e : Entry) → All (λ a. Contains (numbers_of e.shape) (row_asked a)) (asks_of (entry_template basis e))
asks_numbers basis e = all_asks (λ a. Contains (numbers_of e.shape) (row_asked a)) basis e.shape (λ m c. c)
    (λ m b c. flattened_number e.shape m c) (λ m c. (content_number e.shape m c).0)

answers_each : (P : Ask → Type 0) (A B : Ask → Data → Type 0) → ((a : Ask) (t : Data) → P a → A a t → B a t) → (asks : List Ask)
    (ts : List Data) → ((a : Ask) → Contains asks a → P a) → AreAnswered A asks ts → AreAnswered B asks ts
answers_each P A B map [] ts all h = h
answers_each P A B map (a ∷ asks) [] all h = h
answers_each P A B map (a ∷ asks) (t ∷ ts) all h = (
  map a t (all a (0, omega arith, refl)) h.0,
  answers_each P A B map asks ts (λ b is. all b (suc is.0, omega (arith, is.1), is.2)) h.1,
)

-- other answers to what is asked of the rows of a shape
pub own_asked : (A B : Ask → Data → Type 0) (basis : Basis) (e : Entry)
    → ((a : Ask) (t : Data) → Contains (numbers_of e.shape) (row_asked a) → A a t → B a t) → (s : Data)
    → IsOwnDocument A basis (Some e) s → IsOwnDocument B basis (Some e) s
own_asked A B basis e map s h =
    let P : Ask → Type 0 = λ a. Contains (numbers_of e.shape) (row_asked a) in
    let asks = asks_of (entry_template basis e) in
    record {
      parts = h.parts;
      answered = answers_each P A B map asks h.parts (λ a is. subst P is.2 (asks_numbers basis e is.0 a is.1)) h.answered;
      is = h.is;
    }
