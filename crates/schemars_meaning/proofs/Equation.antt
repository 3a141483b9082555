-- In a table without faults more steps change nothing in what a row means, so that the meaning of a row is that of its shape, where the
-- rows in the shape have their meanings.
use Rattle.std.proofs.Common.{◌≡◌, ◌⊎◌, inl, inr, ◌<◌, ◌≤◌, ℕ, zero, suc, ◌+◌, ◌*◌, List, [], length, Bool, false, Option, Some, None, Contains, refl, sym, ap, ◌∙◌, arith}
use Rattle.schemars_meaning.proofs.Words.{mul-le-mul_right, Data, depth, Patterns, Shape, Entry, Tagging, by_name, by_nothing, by_tag, by_tag_and_content, Payload, no_payload, newtype_payload, tuple_payload, struct_payload, payload_flattened, payload_same, payload_same_by, same_value_numbers, flattened_numbers, rank, flattened_in, part_enums, expanded_shape_in, IsChecked, key_options, VariantMatch, has_shape, shape_choices, belongs, Row, entry_at, entry_low, of_variants-more, nothing_among, choices, MeansByShape, belongs_within, choices_within}
use Rattle.schemars_shapes.specs.Shape as shape
use Rattle.schemars_types.specs.declared.contract.Contract.{Contract}
use Rattle.schemars_types.proofs.Asked.{asked}
use Rattle.schemars_meaning.proofs.Congruence.{AreSameBelow, shape_same, offers_same}

closer : (a b h r : ℕ) → a < b → r < h → a * h + r < b * h
closer a b h r less small = grind (arith, mul-le-mul_right)

enough : (a h r : ℕ) → r < h → a * h + r < (a + 1) * h
enough a h r less = omega arith

-- what is flattened has the members of the value itself
same_payload : (p : Payload) (m : ℕ) → Contains (payload_flattened p) m → Contains (payload_same p) m
same_payload no_payload m c = c
same_payload (newtype_payload n) m c = absurd (nothing_among m c)
same_payload (tuple_payload ns) m c = c
same_payload (struct_payload x) m c = c

same_by : (t : Tagging) (p : Payload) (m : ℕ) → Contains (payload_flattened p) m → Contains (payload_same_by t p) m
same_by by_name p m c = c
same_by by_nothing p m c = same_payload p m c
same_by (by_tag tag closed) p m c = same_payload p m c
same_by (by_tag_and_content tag content closed) p m c = c

same_number : (s : Shape) (m : ℕ) → Contains (flattened_numbers s) m → Contains (same_value_numbers s) m
same_number (shape.struct x) m c = c
same_number (shape.enum tagging xs) m c = of_variants-more payload_flattened (payload_same_by tagging) (same_by tagging) xs m c
same_number _ m c = absurd (nothing_among m c)

module _ (rows : List Row) (checked : IsChecked rows) (contract : Contract) (patterns : Patterns) where
  abbrev L : ℕ
  L = length rows

  abbrev B : ℕ → ℕ → Data → Bool
  B m = belongs_within rows contract patterns m

  abbrev C : ℕ → ℕ → Data → List VariantMatch
  C m = choices_within rows contract patterns m

  -- ---- one step

  none_has : (m n : ℕ) (v : Data) → entry_at rows n ≡ None → B m n v ≡ false
  unfolding belongs_within
  none_has zero n v at = refl
  none_has (suc m) n v at = ap (λ o. elim o as (λ z. Bool) [
    | None ↦ false
    | Some e ↦ has_shape contract patterns (key_options rows) (C m) (B m) (expanded_shape_in rows e.shape) v
  ]) at

  none_offers : (m n : ℕ) (v : Data) → entry_at rows n ≡ None → C m n v ≡ []
  unfolding choices_within
  none_offers zero n v at = refl
  none_offers (suc m) n v at = ap (λ o. elim o as (λ z. List VariantMatch) [
    | None ↦ []
    | Some e ↦ shape_choices contract (B m) (C m) (expanded_shape_in rows e.shape) v
  ]) at

  has : (m n : ℕ) (e : Entry) (v : Data) → entry_at rows n ≡ Some e
      → B (suc m) n v ≡ has_shape contract patterns (key_options rows) (C m) (B m) (expanded_shape_in rows e.shape) v
  unfolding belongs_within
  has m n e v at = ap (λ o. elim o as (λ z. Bool) [
    | None ↦ false
    | Some x ↦ has_shape contract patterns (key_options rows) (C m) (B m) (expanded_shape_in rows x.shape) v
  ]) at

  offers : (m n : ℕ) (e : Entry) (v : Data) → entry_at rows n ≡ Some e
      → C (suc m) n v ≡ shape_choices contract (B m) (C m) (expanded_shape_in rows e.shape) v
  unfolding choices_within
  offers m n e v at = ap (λ o. elim o as (λ z. List VariantMatch) [
    | None ↦ []
    | Some x ↦ shape_choices contract (B m) (C m) (expanded_shape_in rows x.shape) v
  ]) at

  low_rank : (n : ℕ) (e : Entry) → entry_at rows n ≡ Some e → rank rows n < L
  low_rank n e at = checked.rank_bound n (entry_low rows n e at)

  -- two meanings of rows that agree on smaller values, and on values as deep of rows of lower rank, agree on the shape of a row
  module _ (p q : ℕ → Data → Bool) (D E : ℕ → Data → List VariantMatch) where
    shape_agrees : (n : ℕ) (e : Entry) → entry_at rows n ≡ Some e → (v : Data) → AreSameBelow contract p q D E (depth v)
        → ((j : ℕ) → rank rows j < rank rows n → (w : Data) → depth w ≡ depth v → p j w ≡ q j w)
        → (0 < rank rows n → (j : ℕ) → D j v ≡ E j v)
        → has_shape contract patterns (key_options rows) D p (expanded_shape_in rows e.shape) v
        ≡ has_shape contract patterns (key_options rows) E q (expanded_shape_in rows e.shape) v
    shape_agrees n e at v below same enums =
        shape_same contract p q D E (flattened_in rows) (part_enums rows) patterns (key_options rows) e.shape v below
        (λ j c w deep. by j w (split (depth w) (depth v) deep) (falls j c)) (λ j c. enums (above j (same_number e.shape j c)))
      where
        split : (a b : ℕ) → a ≤ b → (a < b) ⊎ (a ≡ b)
        split a b h = grind arith

        falls : (j : ℕ) → Contains (same_value_numbers e.shape) j → rank rows j < rank rows n
        falls j c = checked.rank_falls n j (asked rows checked.within n e at j c)

        above : (j : ℕ) → Contains (same_value_numbers e.shape) j → 0 < rank rows n
        above j c = omega (arith, falls j c)

        by : (j : ℕ) (w : Data) → (depth w < depth v) ⊎ (depth w ≡ depth v) → rank rows j < rank rows n → p j w ≡ q j w
        by j w (inl less) lower = below.rows j w less
        by j w (inr deep) lower = same j lower w deep

  -- ---- more steps change nothing

  abbrev RowIsStable : Data → Type 0
  RowIsStable v = (n m k : ℕ) → depth v * L + rank rows n < m → depth v * L + rank rows n < k → B m n v ≡ B k n v

  abbrev OfferIsStable : Data → Type 0
  OfferIsStable v = (n m k : ℕ) → depth v * L < m → depth v * L < k → C m n v ≡ C k n v

  -- values below this depth are stable
  abbrev AreStable : ℕ → Type 0
  AreStable h = (w : Data) → depth w < h → RowIsStable w × OfferIsStable w

  row_same : (h j : ℕ) (w : Data) → AreStable h → depth w < h → (m k : ℕ) → h * L ≤ m → h * L ≤ k → B m j w ≡ B k j w
  row_same h j w stable less m k first second = go (entry_at rows j) refl
    where
      go : (o : Option Entry) → entry_at rows j ≡ o → B m j w ≡ B k j w
      go None at = none_has m j w at ∙ sym (none_has k j w at)
      go (Some e) at =
          let a = closer (depth w) h L (rank rows j) less (low_rank j e at) in
          (stable w less).0 j m k (omega arith) (omega arith)

  same_below : (h : ℕ) → AreStable h → 0 < L → (m k : ℕ) → h * L ≤ m → h * L ≤ k → AreSameBelow contract (B m) (B k) (C m) (C k) h
  same_below h stable some m k first second = record {
    rows = λ j w less. row_same h j w stable less m k first second;
    enums = λ j w less. let a = closer (depth w) h L 0 less some in (stable w less).1 j m k (omega arith) (omega arith);
  }

  offer_stable : (v : Data) → AreStable (depth v) → OfferIsStable v
  offer_stable v stable n zero k first second = absurd (omega arith)
  offer_stable v stable n (suc m) zero first second = absurd (omega arith)
  offer_stable v stable n (suc m) (suc k) first second = go (entry_at rows n) refl
    where
      go : (o : Option Entry) → entry_at rows n ≡ o → C (suc m) n v ≡ C (suc k) n v
      go None at = none_offers (suc m) n v at ∙ sym (none_offers (suc k) n v at)
      go (Some e) at =
          let r = low_rank n e at in
          offers m n e v at
          ∙ offers_same contract (B m) (B k) (C m) (C k) (flattened_in rows) (part_enums rows) e.shape v
          (same_below (depth v) stable (omega arith) m k (omega arith) (omega arith))
          ∙ sym (offers k n e v at)

  row_stable : (r n : ℕ) → rank rows n < r → (v : Data) → AreStable (depth v) → (m k : ℕ) → depth v * L + rank rows n < m
      → depth v * L + rank rows n < k → B m n v ≡ B k n v
  row_stable zero n less v stable m k first second = absurd (omega arith)
  row_stable (suc r) n less v stable zero k first second = absurd (omega arith)
  row_stable (suc r) n less v stable (suc m) zero first second = absurd (omega arith)
  row_stable (suc r) n less v stable (suc m) (suc k) first second =
      go (entry_at rows n) refl (λ j lower w deep.
      let same : depth w * L ≡ depth v * L = ap (λ d. d * L) deep in
      row_stable r j (omega arith) w (λ u small. stable u (omega arith)) m k (omega arith) (omega arith))
    where
      go : (o : Option Entry) → entry_at rows n ≡ o
          → ((j : ℕ) → rank rows j < rank rows n → (w : Data) → depth w ≡ depth v → B m j w ≡ B k j w) → B (suc m) n v ≡ B (suc k) n v
      go None at lower = none_has (suc m) n v at ∙ sym (none_has (suc k) n v at)
      go (Some e) at lower =
          let low = low_rank n e at in
          has m n e v at
          ∙ shape_agrees (B m) (B k) (C m) (C k) n e at v
          (same_below (depth v) stable (omega arith) m k (omega arith) (omega arith)) lower
          (λ above j. offer_stable v stable j m k (omega arith) (omega arith))
          ∙ sym (has k n e v at)

  all_stable : (h : ℕ) → AreStable h
  all_stable zero w less = absurd (omega arith)
  all_stable (suc h) w less =
      let stable : AreStable (depth w) = λ u small. all_stable h u (omega arith) in
      (λ n m k first second. row_stable (suc (rank rows n)) n (omega arith) w stable m k first second, offer_stable w stable)

  -- ---- as many steps as it takes

  settled : (j m : ℕ) (w : Data) (b : ℕ) → b * L ≤ m → depth w < b → B m j w ≡ belongs rows contract patterns j w
  settled j m w b first less = go (entry_at rows j) refl
    where
      go : (o : Option Entry) → entry_at rows j ≡ o → B m j w ≡ B ((depth w + 1) * L) j w
      go None at = none_has m j w at ∙ sym (none_has ((depth w + 1) * L) j w at)
      go (Some e) at =
          let low = low_rank j e at in
          let a = closer (depth w) b L (rank rows j) less low in
          (all_stable b w less).0 j m ((depth w + 1) * L) (omega arith) (enough (depth w) L (rank rows j) low)

  offers_settled : (j m : ℕ) (w : Data) → 0 < L → depth w * L < m → C m j w ≡ choices rows contract patterns j w
  offers_settled j m w some first =
      let a = enough (depth w) L 0 some in (all_stable (suc (depth w)) w (omega arith)).1 j m ((depth w + 1) * L) first (omega arith)

  below_settled : (h m : ℕ) → 0 < L → h * L ≤ m
      → AreSameBelow contract (B m) (belongs rows contract patterns) (C m) (choices rows contract patterns) h
  below_settled h m some first = record {
    rows = λ j w less. settled j m w h first less;
    enums = λ j w less. let a = closer (depth w) h L 0 less some in offers_settled j m w some (omega arith);
  }

  belongs_none : (n : ℕ) (v : Data) → entry_at rows n ≡ None → belongs rows contract patterns n v ≡ false
  belongs_none n v at = none_has ((depth v + 1) * L) n v at

  belongs_some : (n : ℕ) (e : Entry) (v : Data) → entry_at rows n ≡ Some e → belongs rows contract patterns n v
      ≡ has_shape contract patterns (key_options rows) (choices rows contract patterns) (belongs rows contract patterns)
      (expanded_shape_in rows e.shape) v
  belongs_some n e v at = go ((depth v + 1) * L) refl
    where
      low : rank rows n < L
      low = low_rank n e at

      go : (b : ℕ) → b ≡ (depth v + 1) * L → B b n v
          ≡ has_shape contract patterns (key_options rows) (choices rows contract patterns) (belongs rows contract patterns)
          (expanded_shape_in rows e.shape) v
      go zero is = let a = enough (depth v) L (rank rows n) low in absurd (omega arith)
      go (suc m) is =
          let a = enough (depth v) L (rank rows n) low in
          has m n e v at
          ∙ shape_agrees (B m) (belongs rows contract patterns) (C m) (choices rows contract patterns) n e at v
          (below_settled (depth v) m (omega (arith, low)) (omega arith))
          (λ j lower w deep.
          let same : depth w * L ≡ depth v * L = ap (λ d. d * L) deep in
          (all_stable (suc (depth w)) w (omega arith)).0 j m ((depth w + 1) * L) (omega arith)
          (enough (depth w) L (rank rows j) (omega (arith, low))))
          (λ above j. offers_settled j m v (omega (arith, low)) (omega arith))

  choices_some : (n : ℕ) (e : Entry) (v : Data) → entry_at rows n ≡ Some e → choices rows contract patterns n v
      ≡ shape_choices contract (belongs rows contract patterns) (choices rows contract patterns) (expanded_shape_in rows e.shape) v
  choices_some n e v at = go ((depth v + 1) * L) refl
    where
      low : rank rows n < L
      low = low_rank n e at

      go : (b : ℕ) → b ≡ (depth v + 1) * L → C b n v
          ≡ shape_choices contract (belongs rows contract patterns) (choices rows contract patterns) (expanded_shape_in rows e.shape) v
      go zero is = let a = enough (depth v) L (rank rows n) low in absurd (omega arith)
      go (suc m) is =
          let a = enough (depth v) L (rank rows n) low in
          offers m n e v at
          ∙ offers_same contract (B m) (belongs rows contract patterns) (C m) (choices rows contract patterns) (flattened_in rows)
          (part_enums rows) e.shape v (below_settled (depth v) m (omega (arith, low)) (omega arith))

pub means_by_shape : (rows : List Row) → IsChecked rows → MeansByShape rows
means_by_shape rows checked = record {
  undefined = belongs_none rows checked;
  defined = belongs_some rows checked;
  offers = choices_some rows checked;
}
