-- Tables that follow each dictionary which tells some rows, whatever it tells of every other id: they have those rows alone.
use Rattle.std.proofs.Common.{◌≡◌, ◌⊎◌, inl, inr, ◌<◌, ℕ, List, [], ◌∷◌, length, Bool, true, false, Option, Some, None, cond, is_some, option_and_then, refl, ap, sym, ◌∙◌, subst, if◌then◌else◌}
use Rattle.test_callers.proofs.Words.{slice_get, option_map_or, bytes_eq, bytes_eq-Decides, Text, Entry, Row, HasDistinctIds, place_of, id_at, name_at, entry_at, Unsaid, IsMade, Told, Dictionary, Defined, TypeRow, told_of, Follows, IsEntryOf, id-there}
use Rattle.test_callers.proofs.Counting.{place_of_row, row_below}

-- what these tell of an id, or else this
abbrev pub told_or : Told → List (Text × Told) → Text → Told
told_or other [] id = other
told_or other (x ∷ xs) id = if bytes_eq id x.0 then x.1 else told_or other xs id

-- the dictionary that tells these, and this of every other id, where each row is defined
abbrev pub listing : List (Text × Told) → Told → Dictionary
listing entries other = record { told = λ id. Some (told_or other entries id); stage = λ id. Defined; refuses = λ e. false }

pub listing_followed : (entries : List (Text × Told)) (other : Told) → Follows (listing entries other) []
listing_followed entries other = record { each = λ id n there. cc; pending = λ id is. cc }

-- the table follows it, whatever it tells of other ids
abbrev pub FollowsEach : List (Text × Told) → List Row → Type 0
FollowsEach entries rows = (other : Told) → Follows (listing entries other) rows

-- ---- no other row

abbrev pub names_one : Text → List (Text × Told) → Bool
names_one id [] = false
names_one id (x ∷ xs) = cond (bytes_eq id x.0) true (names_one id xs)

told_or-other : (other : Told) (entries : List (Text × Told)) (id : Text) → names_one id entries ≡ false → told_or other entries id ≡ other
told_or-other other [] id none = refl
told_or-other other (x ∷ xs) id none = by (bytes_eq id x.0) none (told_or-other other xs id)
  where
    by : (b : Bool) → cond b true (names_one id xs) ≡ false → (names_one id xs ≡ false → told_or other xs id ≡ other)
        → (if b then x.1 else told_or other xs id) ≡ other
    by true e rest = cc
    by false e rest = rest e

called : Text → Told
called name = record { name = name; inline = true; making = Unsaid }

name_of_other : (entries : List (Text × Told)) (rows : List Row) (name id : Text) (k : ℕ) → FollowsEach entries rows
    → names_one id entries ≡ false → place_of id rows ≡ Some k → name_at rows k ≡ name
unfolding called
name_of_other entries rows name id k follows none there =
    ((follows (called name)).each id k there).name ∙ ap (λ (t : Told). t.name) (told_or-other (called name) entries id none)

pub named : (entries : List (Text × Told)) (rows : List Row) (id : Text) (k : ℕ) → FollowsEach entries rows
    → place_of id rows ≡ Some k → names_one id entries ≡ true
named entries rows id k follows there = by (names_one id entries) refl
  where
    by : (b : Bool) → names_one id entries ≡ b → names_one id entries ≡ true
    by true e = e
    by false e =
        let empty : name_at rows k ≡ [] = name_of_other entries rows [] id k follows e there in
        let longer : name_at rows k ≡ 0 ∷ [] = name_of_other entries rows (0 ∷ []) id k follows e there in
        cc

-- ---- where rows are

same_place : (x id : Text) (rows : List Row) (k n : ℕ) → bytes_eq x id ≡ true → place_of x rows ≡ Some k → place_of id rows ≡ Some n → k ≡ n
same_place x id rows k n same at there =
    let is : x ≡ id = (bytes_eq-Decides x id).0 same in
    let both : Some k ≡ Some n = sym at ∙ (ap (λ t. place_of t rows) is ∙ there) in
    cc

pub apart_places : (a b : Text) (rows : List Row) (n m : ℕ) → bytes_eq b a ≡ false → place_of a rows ≡ Some n → place_of b rows ≡ Some m
    → n ≡ m → ⊥
apart_places a b rows n m apart at_a at_b same =
    let is : b ≡ a = sym (id-there b m rows at_b) ∙ (ap (id_at rows) (sym same) ∙ id-there a n rows at_a) in
    let equal : bytes_eq b a ≡ true = (bytes_eq-Decides b a).1 is in
    let never : true ≡ false = sym equal ∙ apart in
    cc

module _ (rows : List Row) (x : Text) (k : ℕ) (at : place_of x rows ≡ Some k) where
  of_one_id : (a : Text) (A : Told) (n : ℕ) → place_of a rows ≡ Some n → names_one x ((a, A) ∷ []) ≡ true → k ≡ n
  of_one_id a A n there is = by (bytes_eq x a) refl is
    where
      by : (b : Bool) → bytes_eq x a ≡ b → cond b true false ≡ true → k ≡ n
      by true e h = same_place x a rows k n e at there
      by false e h = cc

  of_two_ids : (a b : Text) (A B : Told) (n m : ℕ) → place_of a rows ≡ Some n → place_of b rows ≡ Some m
      → names_one x ((a, A) ∷ (b, B) ∷ []) ≡ true → (k ≡ n) ⊎ (k ≡ m)
  of_two_ids a b A B n m at_a at_b is = by (bytes_eq x a) refl is
    where
      by : (t : Bool) → bytes_eq x a ≡ t → cond t true (names_one x ((b, B) ∷ [])) ≡ true → (k ≡ n) ⊎ (k ≡ m)
      by true e h = inl (same_place x a rows k n e at at_a)
      by false e h = inr (of_one_id b B m at_b h)

  of_three_ids : (a b c : Text) (A B C : Told) (n m l : ℕ) → place_of a rows ≡ Some n → place_of b rows ≡ Some m → place_of c rows ≡ Some l
      → names_one x ((a, A) ∷ (b, B) ∷ (c, C) ∷ []) ≡ true → (k ≡ n) ⊎ ((k ≡ m) ⊎ (k ≡ l))
  of_three_ids a b c A B C n m l at_a at_b at_c is = by (bytes_eq x a) refl is
    where
      by : (t : Bool) → bytes_eq x a ≡ t → cond t true (names_one x ((b, B) ∷ (c, C) ∷ [])) ≡ true → (k ≡ n) ⊎ ((k ≡ m) ⊎ (k ≡ l))
      by true e h = inl (same_place x a rows k n e at at_a)
      by false e h = inr (of_two_ids b c B C m l at_b at_c h)

-- the same of the row with this number
module _ (rows : List Row) (distinct : HasDistinctIds rows) (k : ℕ) (below : k < length rows) where
  pub only_one : (a : Text) (A : Told) (n : ℕ) → FollowsEach ((a, A) ∷ []) rows → place_of a rows ≡ Some n → k ≡ n
  only_one a A n follows at_a =
      let q = row_below rows k below in
      let at : place_of q.0.id rows ≡ Some k = place_of_row rows k q.0 distinct q.1 in
      of_one_id rows q.0.id k at a A n at_a (named ((a, A) ∷ []) rows q.0.id k follows at)

  pub only_two : (a b : Text) (A B : Told) (n m : ℕ) → FollowsEach ((a, A) ∷ (b, B) ∷ []) rows → place_of a rows ≡ Some n
      → place_of b rows ≡ Some m → (k ≡ n) ⊎ (k ≡ m)
  only_two a b A B n m follows at_a at_b =
      let q = row_below rows k below in
      let at : place_of q.0.id rows ≡ Some k = place_of_row rows k q.0 distinct q.1 in
      of_two_ids rows q.0.id k at a b A B n m at_a at_b (named ((a, A) ∷ (b, B) ∷ []) rows q.0.id k follows at)

  pub only_three : (a b c : Text) (A B C : Told) (n m l : ℕ) → FollowsEach ((a, A) ∷ (b, B) ∷ (c, C) ∷ []) rows
      → place_of a rows ≡ Some n → place_of b rows ≡ Some m → place_of c rows ≡ Some l → (k ≡ n) ⊎ ((k ≡ m) ⊎ (k ≡ l))
  only_three a b c A B C n m l follows at_a at_b at_c =
      let q = row_below rows k below in
      let at : place_of q.0.id rows ≡ Some k = place_of_row rows k q.0 distinct q.1 in
      of_three_ids rows q.0.id k at a b c A B C n m l at_a at_b at_c
      (named ((a, A) ∷ (b, B) ∷ (c, C) ∷ []) rows q.0.id k follows at)

-- ---- the row of a type

-- the row of a type whose entry is this, once it is set whether it is written in place
abbrev pub row_of : TypeRow → Entry → Row
row_of t e = record { id = t.id; name = t.name; entry = Some (record e { inline = t.inline }) }

row_with : (id name : Text) (e : Entry) (o : Option Row) → option_map_or (λ r. r.id) o [] ≡ id → option_map_or (λ r. r.name) o [] ≡ name
    → option_and_then (λ r. r.entry) o ≡ Some e → o ≡ Some (record { id = id; name = name; entry = Some e })
row_with id name e None id_is name_is entry_is = cc
row_with id name e (Some r) id_is name_is entry_is =
    ap (λ (x : Text). Some (record r { id = x })) id_is
    ∙ (ap (λ (x : Text). Some (record r { id = id; name = x })) name_is
    ∙ ap (λ (x : Option Entry). Some (record r { id = id; name = name; entry = x })) entry_is)

pub row_told : (entries : List (Text × Told)) (other : Told) (t : TypeRow) (rows : List Row) (n : ℕ)
    → told_or other entries t.id ≡ told_of t → Follows (listing entries other) rows → place_of t.id rows ≡ Some n
    → (given : Entry) × IsMade t.making rows given × (slice_get rows n ≡ Some (row_of t given))
row_told entries other t rows n told f there =
    let at = f.each t.id n there in
    go (entry_at rows n) refl at.stage (subst (λ (x : Told). IsEntryOf (Some x) rows (entry_at rows n)) told at.entry)
  where
    name_is : name_at rows n ≡ t.name
    name_is = (f.each t.id n there).name ∙ ap (λ (x : Told). x.name) told

    go : (o : Option Entry) → entry_at rows n ≡ o → is_some o ≡ true → IsEntryOf (Some (told_of t)) rows o
        → (given : Entry) × IsMade t.making rows given × (slice_get rows n ≡ Some (row_of t given))
    go None is some made = cc
    go (Some e) is some made = (
      made.given,
      made.made,
      row_with t.id t.name e (slice_get rows n) (id-there t.id n rows there) name_is is
          ∙ ap (λ (x : Entry). Some (record { id = t.id; name = t.name; entry = Some x })) made.is,
    )
