-- The ids of a type's parts, which have rows, and their numbers, in a table that keeps its rows.
use Rattle.std.proofs.Common.{◌≡◌, ℕ, List, [], ◌∷◌, ◌++◌, Some, refl, sym, ap, ◌∙◌}
use Rattle.schemars_accepted.proofs.RowWords.{Text, Entry, Row, place_of, places_of, IsMade, Keeps, place_of-kept, AreNumbers, number_in, of_ids, are_numbers}

-- ids that have rows
abbrev pub ArePlaced : List Row → List Text → Type 0
ArePlaced rows [] = Unit {0}
ArePlaced rows (id ∷ ids) = ((n : ℕ) × (place_of id rows ≡ Some n)) × ArePlaced rows ids

placed : (rows : List Row) (ids : List Text) → ArePlaced rows ids → (ns : List ℕ) × (places_of ids rows ≡ Some ns)
placed rows [] are = ([], refl)
placed rows (id ∷ ids) are = let rest = placed rows ids are.1 in (are.0.0 ∷ rest.0, rw (are.0.1, rest.1) refl)

-- what is made of the numbers of ids, if they have rows
pub is_made_of_ids : (ids : List Text) (make : (Text → ℕ) → Entry) (rows : List Row) (e : Entry) → ArePlaced rows ids
    → ((number : Text → ℕ) → AreNumbers rows number ids → e ≡ make number) → IsMade (of_ids ids make) rows e
is_made_of_ids ids make rows e are is =
    let p = placed rows ids are in
    rw p.1 (ap Some (sym (is (λ id. number_in id ids p.0) (are_numbers rows ids p.0 p.1))))

pub ids_kept : {old new : List Row} → Keeps old new → (ids : List Text) → ArePlaced old ids → ArePlaced new ids
ids_kept kept [] are = tt
ids_kept kept (id ∷ ids) are = ((are.0.0, place_of-kept id are.0.0 kept are.0.1), ids_kept kept ids are.1)

pub both_placed : (rows : List Row) (ids more : List Text) → ArePlaced rows ids → ArePlaced rows more → ArePlaced rows (ids ++ more)
both_placed rows [] more are also = also
both_placed rows (id ∷ ids) more are also = (are.0, both_placed rows ids more are.1 also)

pub first_numbers : (rows : List Row) (number : Text → ℕ) (ids more : List Text)
    → AreNumbers rows number (ids ++ more) → AreNumbers rows number ids
first_numbers rows number [] more are = tt
first_numbers rows number (id ∷ ids) more are = (are.0, first_numbers rows number ids more are.1)

pub other_numbers : (rows : List Row) (number : Text → ℕ) (ids more : List Text)
    → AreNumbers rows number (ids ++ more) → AreNumbers rows number more
other_numbers rows number [] more are = are
other_numbers rows number (id ∷ ids) more are = other_numbers rows number ids more are.1

-- the number of an id is what it was
pub number_is : {old new : List Row} (id : Text) (n m : ℕ) → Keeps old new → place_of id old ≡ Some n → place_of id new ≡ Some m → m ≡ n
number_is id n m kept there is = let same : Some m ≡ Some n = sym is ∙ place_of-kept id n kept there in cc

-- numbers in a table that keeps the rows of another, where the ids have rows, are those of that one
pub back : {old new : List Row} → Keeps old new → (ids : List Text) → ArePlaced old ids → (number : Text → ℕ) → AreNumbers new number ids
    → AreNumbers old number ids
back kept [] placed number are = tt
back kept (id ∷ ids) placed number are =
    (placed.0.1 ∙ ap Some (sym (number_is id placed.0.0 (number id) kept placed.0.1 are.0)), back kept ids placed.1 number are.1)
