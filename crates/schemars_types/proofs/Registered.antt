-- What `define` answers for a row that was just reserved.
use Rattle.std.proofs.Common.{◌≡◌, ◌<◌, ◌≤◌, ◌+◌, ℕ, List, [], ◌∷◌, ◌++◌, length, find, nat_le, Bool, true, false, Option, Some, None, cond, if◌then◌else◌, refl, ap, ◌∙◌, sym, subst, arith, length-append}
use Rattle.schemars_types.proofs.Words.{nat_tests, position_from, bytes_eq, Text, Shape, Entry, numbers_of, Row, place_of, entry_at, reserved, unknown_in, holds_another, Refuses, refusal_of}
use Rattle.schemars_types.specs.declared.error.TypesError.{TypesError}
use Rattle.schemars_types.specs.declared.error.TypesError.TheVariants.{AlreadyDefined}
use Rattle.schemars_types.proofs.TableLemmas.{place_of-reserved, reserved-absent}

below_from : (test : Row → Bool) (rows : List Row) (i n : ℕ) → position_from test i rows ≡ Some n → n < i + length rows
below_from test [] i n found = cc
below_from test (r ∷ rows) i n found = by (test r) found (below_from test rows (i + 1) n)
  where
    by : (b : Bool) → cond b (Some i) (position_from test (i + 1) rows) ≡ Some n
        → (position_from test (i + 1) rows ≡ Some n → n < i + 1 + length rows) → n < i + length (r ∷ rows)
    by true h rest = let same : i ≡ n = cc in omega arith
    by false h rest = let later : n < i + 1 + length rows = rest h in omega arith

pub place_of-below : (id : Text) (rows : List Row) (n : ℕ) → place_of id rows ≡ Some n → n < length rows
place_of-below id rows n found = let below : n < 0 + length rows = below_from (λ r. bytes_eq r.id id) rows 0 n found in omega arith

pub nat_le-above : (a b : ℕ) → b < a → nat_le a b ≡ false
nat_le-above a b h = grind (arith, nat_tests)

-- what is known stays known as rows join
pub known_in_more : (a b : ℕ) (ns : List ℕ) → a ≤ b → find (λ m. nat_le a m) ns ≡ None → find (λ m. nat_le b m) ns ≡ None
known_in_more a b [] more known = refl
known_in_more a b (n ∷ ns) more known = by (nat_le a n) refl known (known_in_more a b ns more)
  where
    by : (t : Bool) → nat_le a n ≡ t → cond t (Some n) (find (λ m. nat_le a m) ns) ≡ None
        → (find (λ m. nat_le a m) ns ≡ None → find (λ m. nat_le b m) ns ≡ None)
        → cond (nat_le b n) (Some n) (find (λ m. nat_le b m) ns) ≡ None
    by true e h rest = cc
    by false e h rest = let above : nat_le b n ≡ false = grind (arith, nat_tests) in rw above (rest h)

known_when_reserved : (old : List Row) (r : Row) (s : Shape) → unknown_in old s ≡ None → unknown_in (old ++ r ∷ []) s ≡ None
known_when_reserved old r s known = known_in_more (length old) (length (old ++ r ∷ [])) (numbers_of s)
    (omega (arith, length-append old (r ∷ []))) known

entry_at-past_end : (old : List Row) → entry_at old (length old) ≡ None
entry_at-past_end [] = refl
entry_at-past_end (r ∷ old) = entry_at-past_end old

pub entry_at-joined : (old : List Row) (id name : Text) → entry_at (old ++ (record { id = id; name = name; entry = None }) ∷ []) (length old)
    ≡ None
entry_at-joined [] id name = refl
entry_at-joined (r ∷ old) id name = entry_at-joined old id name

-- with all numbers known, another entry alone is refused
refusal_of-known : (rows : List Row) (n : ℕ) (e : Entry) → n < length rows → unknown_in rows e.shape ≡ None
    → refusal_of rows n e ≡ (if holds_another rows n e then Some (AlreadyDefined n) else None)
refusal_of-known rows n e below known = rw (nat_le-above (length rows) n below, known)

module _ (id name : Text) (e : Entry) (old : List Row) (n : ℕ) (known : unknown_in old e.shape ≡ None) where
  refusal_of-old : place_of id old ≡ Some n → refusal_of old n e ≡ (if holds_another old n e then Some (AlreadyDefined n) else None)
  refusal_of-old number = refusal_of-known old n e (place_of-below id old n number) known

  new_number : place_of id old ≡ None → place_of id (reserved id name old) ≡ Some n → length old ≡ n
  new_number none number = let same : Some (length old) ≡ Some n = sym (place_of-reserved id name old none) ∙ number in cc

  -- a new row takes any entry
  refusal_of-new : place_of id old ≡ None → place_of id (reserved id name old) ≡ Some n → refusal_of (reserved id name old) n e ≡ None
  refusal_of-new none number =
      let new : Row = record { id = id; name = name; entry = None } in
      let last : length old ≡ n = new_number none number in
      let joined : reserved id name old ≡ old ++ new ∷ [] = reserved-absent id name old none in
      let undefined : entry_at (old ++ new ∷ []) n ≡ None = ap (entry_at (old ++ new ∷ [])) (sym last) ∙ entry_at-joined old id name in
      ap (λ rows. refusal_of rows n e) joined
      ∙ refusal_of-known (old ++ new ∷ []) n e (omega (arith, length-append old (new ∷ []))) (known_when_reserved old new e.shape known)
      ∙ rw undefined

  -- what is refused was so before the id was reserved, which left the table as it was
  pub refused-reserved : (err : TypesError) → place_of id (reserved id name old) ≡ Some n
      → refusal_of (reserved id name old) n e ≡ Some err → (reserved id name old ≡ old) × Refuses id e old err
  refused-reserved err number refused = by (place_of id old) refl
    where
      taken : (b : Bool) → holds_another old n e ≡ b → place_of id old ≡ Some n
          → (if b then Some (AlreadyDefined n) else None) ≡ Some err → Refuses id e old err
      taken true another there is = let same : AlreadyDefined n ≡ err = cc in subst (Refuses id e old) same (known, there, another)
      taken false another there is = cc

      by : (o : Option ℕ) → place_of id old ≡ o → (reserved id name old ≡ old) × Refuses id e old err
      by None none = let never : None ≡ Some err = sym (refusal_of-new none number) ∙ refused in cc
      by (Some k) at =
          let same : reserved id name old ≡ old = rw at in
          let there : place_of id old ≡ Some n = ap (place_of id) (sym same) ∙ number in (
            same,
            taken (holds_another old n e) refl there (sym (refusal_of-old there) ∙ ap (λ rows. refusal_of rows n e) (sym same)
                ∙ refused),
          )

  -- and where nothing is refused, no other entry was there
  pub free-reserved : place_of id (reserved id name old) ≡ Some n → refusal_of (reserved id name old) n e ≡ None
      → holds_another old n e ≡ false
  free-reserved number accepted = by (place_of id old) refl
    where
      free : (b : Bool) → (if b then Some (AlreadyDefined n) else None) ≡ None → b ≡ false
      free true is = cc
      free false is = refl

      by : (o : Option ℕ) → place_of id old ≡ o → holds_another old n e ≡ false
      by None none = let undefined : entry_at old n ≡ None = ap (entry_at old) (sym (new_number none number)) ∙ entry_at-past_end old in
          rw undefined
      by (Some k) at =
          let same : reserved id name old ≡ old = rw at in
          let there : place_of id old ≡ Some n = ap (place_of id) (sym same) ∙ number in
          free (holds_another old n e) (sym (refusal_of-old there) ∙ ap (λ rows. refusal_of rows n e) (sym same) ∙ accepted)

-- the first of a shape's numbers that is no row's
pub unknown_among : (rows : List Row) (s : Shape) (ns : List ℕ) (len : ℕ) (o : Option ℕ) → numbers_of s ≡ ns → len ≡ length rows
    → o ≡ find (λ m. nat_le len m) ns → unknown_in rows s ≡ o
unknown_among rows s ns len o numbers same is =
    ap (find (λ m. nat_le (length rows) m)) numbers ∙ ap (λ l. find (λ m. nat_le l m) ns) (sym same) ∙ sym is
