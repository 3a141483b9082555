-- What an empty table holds once a type of each kind was registered in it, whose parts have no parts.
use Rattle.std.proofs.Common.{◌≡◌, ℕ, List, [], ◌∷◌, Bool, true, false, Option, None, Some, refl, ap, sym, ◌∙◌, subst, option_map, option_and_then, if◌then◌else◌, ◌==◌}
use Rattle.test_callers.proofs.Words.{bytes_eq, Text, Shape, Entry, without_notes, in_place, array, tuple, array_id, array_name, tuple_id, tuple_name, Row, place_of, TypeRow, alone, of_one, of_two, array_row, tuple_row, and_parts, no_parts, HasItems, Always, IsMade, OfOne, IsRegistered, HoldsOne, HoldsTwo, HoldsThree, HoldsChain, row}
use Rattle.test_callers.proofs.Holding.{holds_one, holds_two, holds_three, holds_chain}

-- ---- how entries are made

made_of_one : (make : ℕ → Entry) (o : Option ℕ) (e : Entry) → option_map make o ≡ Some e → (m : ℕ) × (o ≡ Some m) × (e ≡ make m)
made_of_one make None e made = cc
made_of_one make (Some m) e made = (m, refl, cc)

made_of_two : (make : ℕ → ℕ → Entry) (o p : Option ℕ) (e : Entry) → option_and_then (λ n. option_map (λ m. make n m) p) o ≡ Some e
    → (n m : ℕ) × (o ≡ Some n) × (p ≡ Some m) × (e ≡ make n m)
made_of_two make None p e made = cc
made_of_two make (Some n) None e made = cc
made_of_two make (Some n) (Some m) e made = (n, m, refl, refl, cc)

made_single : (o : Option ℕ) (e : Entry)
    → option_map (λ ns. in_place (tuple ns)) (option_and_then (λ n. option_map (λ ns. n ∷ ns) (Some [])) o) ≡ Some e
    → (m : ℕ) × (o ≡ Some m) × (e ≡ in_place (tuple (m ∷ [])))
made_single None e made = cc
made_single (Some m) e made = (m, refl, cc)

made_pair : (o p : Option ℕ) (e : Entry)
    → option_map (λ ns. in_place (tuple ns))
    (option_and_then (λ n. option_map (λ ns. n ∷ ns) (option_and_then (λ m. option_map (λ ns. m ∷ ns) (Some [])) p)) o) ≡ Some e
    → (n m : ℕ) × (o ≡ Some n) × (p ≡ Some m) × (e ≡ in_place (tuple (n ∷ m ∷ [])))
made_pair None p e made = cc
made_pair (Some n) None e made = cc
made_pair (Some n) (Some m) e made = (n, m, refl, refl, cc)

-- of the number of one id, which is asked for twice
made_twice : (make : ℕ → ℕ → Entry) (o : Option ℕ) (e : Entry) → (n m : ℕ) × (o ≡ Some n) × (o ≡ Some m) × (e ≡ make n m)
    → (m : ℕ) × (o ≡ Some m) × (e ≡ make m m)
made_twice make o e p =
    let both : Some p.0 ≡ Some p.1 = sym p.2 ∙ p.3 in
    let same : p.1 ≡ p.0 = cc in
    (p.0, p.2, p.4 ∙ ap (make p.0) same)

-- a type without parts, whose entry has this shape
abbrev leaf : Text → Text → Bool → Shape → TypeRow
leaf id name inline s = alone id name inline (without_notes inline s)

-- ---- one row

pub alone_holds : {id name : Text} {inline : Bool} (s : Shape) {rows : List Row} {n : ℕ} → IsRegistered (leaf id name inline s) rows n
    → HoldsOne (row id name inline s) rows n
unfolding alone
alone_holds {id = id} {name = name} {inline = inline} s {rows = rows} {n = n} r =
    holds_one (leaf id name inline s) (without_notes inline s) rows n r (λ d. tt) (λ g is. is)

pub empty_holds : (t : TypeRow) {rows : List Row} {n : ℕ} → IsRegistered (array_row t 0) rows n
    → HoldsOne (row (array_id t.id 0) (array_name t.name 0) true (tuple [])) rows n
unfolding array_row
empty_holds t {rows = rows} {n = n} r =
    holds_one (array_row t 0) (in_place (tuple [])) rows n r (λ d. tt) (λ g is. is)

-- ---- two rows

module _ {part part_name : Text} {within : Bool} (s : Shape) {rows : List Row} {n : ℕ} where
  pub one_holds : {id name : Text} {inline : Bool} (f : ℕ → Shape)
      → IsRegistered (of_one id name inline (λ m. without_notes inline (f m)) (leaf part part_name within s)) rows n
      → bytes_eq part id ≡ false → HoldsTwo (λ m. row id name inline (f m)) (row part part_name within s) rows n
  unfolding of_one alone
  one_holds {id = id} {name = name} {inline = inline} f r apart =
      let make : ℕ → Entry = λ m. without_notes inline (f m) in
      holds_two (of_one id name inline make (leaf part part_name within s)) (leaf part part_name within s) make (without_notes within s)
      rows n r apart (λ d is. is) (λ d. tt) (λ g is. made_of_one make (place_of part rows) g is) (λ g is. is)

  pub array_holds : {len : ℕ} → IsRegistered (array_row (leaf part part_name within s) len) rows n → (len == 0) ≡ false
      → bytes_eq part (array_id part len) ≡ false
      → HoldsTwo (λ m. row (array_id part len) (array_name part_name len) true (array m len)) (row part part_name within s) rows n
  unfolding array_row alone
  array_holds {len = len} r some apart =
      let t : TypeRow = leaf part part_name within s in
      holds_two (array_row t len) t (λ m. in_place (array m len)) (without_notes within s) rows n r apart
      (λ d is. subst (λ b. HasItems b t d) (sym some) is) (λ d. tt)
      (λ g is. made_of_one (λ m. in_place (array m len)) (place_of part rows) g
      (subst (λ b. IsMade (if b then Always (in_place (tuple [])) else OfOne part (λ m. in_place (array m len))) rows g) some is))
      (λ g is. is)

  pub single_holds : IsRegistered (tuple_row (and_parts (leaf part part_name within s) no_parts)) rows n
      → bytes_eq part (tuple_id (part ∷ [])) ≡ false
      → HoldsTwo (λ m. row (tuple_id (part ∷ [])) (tuple_name (part_name ∷ [])) true (tuple (m ∷ []))) (row part part_name within s) rows n
  unfolding tuple_row alone
  single_holds r apart =
      let t : TypeRow = leaf part part_name within s in
      holds_two (tuple_row (and_parts t no_parts)) t (λ m. in_place (tuple (m ∷ []))) (without_notes within s) rows n r apart
      (λ d is. (is, tt)) (λ d. tt) (λ g is. made_single (place_of part rows) g is) (λ g is. is)

  pub twice_holds : {id name : Text} {inline : Bool} (f : ℕ → ℕ → Shape)
      → IsRegistered (of_two id name inline (λ i j. without_notes inline (f i j)) (leaf part part_name within s)
      (leaf part part_name within s)) rows n → bytes_eq part id ≡ false
      → HoldsTwo (λ m. row id name inline (f m m)) (row part part_name within s) rows n
  unfolding of_two alone
  twice_holds {id = id} {name = name} {inline = inline} f r apart =
      let make : ℕ → ℕ → Entry = λ i j. without_notes inline (f i j) in
      let t : TypeRow = leaf part part_name within s in
      holds_two (of_two id name inline make t t) t (λ m. make m m) (without_notes within s) rows n r apart (λ d is. (is, is)) (λ d. tt)
      (λ g is. made_twice make (place_of part rows) g (made_of_two make (place_of part rows) (place_of part rows) g is)) (λ g is. is)

  pub pair_twice_holds : IsRegistered (tuple_row (and_parts (leaf part part_name within s)
      (and_parts (leaf part part_name within s) no_parts))) rows n
      → bytes_eq part (tuple_id (part ∷ part ∷ [])) ≡ false
      → HoldsTwo (λ m. row (tuple_id (part ∷ part ∷ [])) (tuple_name (part_name ∷ part_name ∷ [])) true (tuple (m ∷ m ∷ [])))
      (row part part_name within s) rows n
  unfolding tuple_row alone
  pair_twice_holds r apart =
      let make : ℕ → ℕ → Entry = λ i j. in_place (tuple (i ∷ j ∷ [])) in
      let t : TypeRow = leaf part part_name within s in
      holds_two (tuple_row (and_parts t (and_parts t no_parts))) t (λ m. make m m) (without_notes within s) rows n r apart
      (λ d is. (is, (is, tt))) (λ d. tt)
      (λ g is. made_twice make (place_of part rows) g (made_pair (place_of part rows) (place_of part rows) g is)) (λ g is. is)

  -- a type of one part, which has one part
  pub chain_holds : {id name mid mid_name : Text} {inline mid_inline : Bool} (f g : ℕ → Shape)
      → IsRegistered (of_one id name inline (λ m. without_notes inline (f m))
      (of_one mid mid_name mid_inline (λ m. without_notes mid_inline (g m)) (leaf part part_name within s))) rows n
      → bytes_eq mid id ≡ false → bytes_eq part id ≡ false → bytes_eq part mid ≡ false
      → HoldsChain (λ m. row id name inline (f m)) (λ m. row mid mid_name mid_inline (g m)) (row part part_name within s) rows n
  unfolding of_one alone
  chain_holds {id = id} {name = name} {mid = mid} {mid_name = mid_name} {inline = inline} {mid_inline = mid_inline} f g r mt pt pm =
      let make : ℕ → Entry = λ m. without_notes inline (f m) in
      let make_mid : ℕ → Entry = λ m. without_notes mid_inline (g m) in
      let t : TypeRow = leaf part part_name within s in
      let u : TypeRow = of_one mid mid_name mid_inline make_mid t in
      holds_chain (of_one id name inline make u) u t make make_mid (without_notes within s) rows n r mt pt pm (λ d is. is) (λ d is. is)
      (λ d. tt) (λ x is. made_of_one make (place_of mid rows) x is) (λ x is. made_of_one make_mid (place_of part rows) x is) (λ x is. is)

-- ---- three rows

module _ {a a_name b b_name : Text} {a_within b_within : Bool} (s u : Shape) {rows : List Row} {n : ℕ} where
  pub two_holds : {id name : Text} {inline : Bool} (f : ℕ → ℕ → Shape)
      → IsRegistered
      (of_two id name inline (λ i j. without_notes inline (f i j)) (leaf a a_name a_within s) (leaf b b_name b_within u)) rows n
      → bytes_eq a id ≡ false → bytes_eq b id ≡ false → bytes_eq b a ≡ false
      → HoldsThree (λ i j. row id name inline (f i j)) (row a a_name a_within s) (row b b_name b_within u) rows n
  unfolding of_two alone
  two_holds {id = id} {name = name} {inline = inline} f r at bt ba =
      let make : ℕ → ℕ → Entry = λ i j. without_notes inline (f i j) in
      holds_three (of_two id name inline make (leaf a a_name a_within s) (leaf b b_name b_within u))
      (leaf a a_name a_within s) (leaf b b_name b_within u) make (without_notes a_within s) (without_notes b_within u) rows n r at bt ba
      (λ d is js. (is, js)) (λ d. tt) (λ d. tt) (λ g is. made_of_two make (place_of a rows) (place_of b rows) g is)
      (λ g is. is) (λ g is. is)

  pub pair_holds : IsRegistered (tuple_row (and_parts (leaf a a_name a_within s) (and_parts (leaf b b_name b_within u) no_parts))) rows n
      → bytes_eq a (tuple_id (a ∷ b ∷ [])) ≡ false → bytes_eq b (tuple_id (a ∷ b ∷ [])) ≡ false → bytes_eq b a ≡ false
      → HoldsThree (λ i j. row (tuple_id (a ∷ b ∷ [])) (tuple_name (a_name ∷ b_name ∷ [])) true (tuple (i ∷ j ∷ [])))
      (row a a_name a_within s) (row b b_name b_within u) rows n
  unfolding tuple_row alone
  pair_holds r at bt ba =
      let t : TypeRow = leaf a a_name a_within s in
      let v : TypeRow = leaf b b_name b_within u in
      holds_three (tuple_row (and_parts t (and_parts v no_parts))) t v (λ i j. in_place (tuple (i ∷ j ∷ [])))
      (without_notes a_within s) (without_notes b_within u) rows n r at bt ba (λ d is js. (is, (js, tt))) (λ d. tt) (λ d. tt)
      (λ g is. made_pair (place_of a rows) (place_of b rows) g is) (λ g is. is) (λ g is. is)
