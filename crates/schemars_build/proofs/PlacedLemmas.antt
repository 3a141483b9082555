-- The name of a row, where a table says for each row and contract which name may be its own.
use Rattle.std.proofs.Common.{◌≡◌, ◌++◌, ◌∷◌, [], ◌∙◌, ◌&&◌, ◌==◌, ℕ, zero, suc, List, Bool, true, false, Some, None, Option, refl, sym, ap, subst, arith, String, Global, string_bytes, length, take, slice_get, option_map, true≢false, inl, inr}
use Rattle.schemars_build.proofs.Words.{list_any, ◌⊎◌, nat_tests, eqb-true, is_of, name_of, naming_of, and_parts, same_Some, named_row, ArePlaced}
use Rattle.schemars_types.specs.declared.contract.Contract.{Contract}
use Rattle.schemars_types.specs.declared.contract.Contract.TheVariants.{Deserialize, Serialize}
use Rattle.schemars_build.specs.declared.names.Owner.{Owner}
use Rattle.schemars_build.proofs.Elements.{at_in_take, last_or_before, never_among}
use Rattle.schemars_build.proofs.NamingLemmas.{is_owner, same_test}

-- ---- which owner it is

pub whose_owner : (n : ℕ) (c : Contract) (o : Owner) → is_owner n c o ≡ true → (n ≡ o.row) × (c ≡ o.contract)
whose_owner n c o h = by c o.contract h
  where
    by : (a b : Contract) → is_owner n a (record { row = o.row; contract = b }) ≡ true → (n ≡ o.row) × (a ≡ b)
    by Deserialize Deserialize is = (eqb-true n o.row (and_parts (n == o.row) true is).0, refl)
    by Serialize Serialize is = (eqb-true n o.row (and_parts (n == o.row) true is).0, refl)
    by Deserialize Serialize is = absurd (true≢false (sym (and_parts (n == o.row) false is).1))
    by Serialize Deserialize is = absurd (true≢false (sym (and_parts (n == o.row) false is).1))

pub own_place : (owners : List Owner) (place : ℕ → Contract → Option ℕ) → ArePlaced owners place → (n : ℕ) (c : Contract) (i : ℕ)
    (o : Owner) → slice_get owners i ≡ Some o → is_owner n c o ≡ true → place n c ≡ Some i
own_place owners place h n c i o at is =
    let same = whose_owner n c o is in
    (λ j. place (same.0 j) (same.1 j)) ∙ h i o at

-- ---- the name at the place

module _ (n : ℕ) (c : Contract) where
  pub absent : (owners : List Owner) (given : List (String Global)) → length owners ≡ length given
      → ((i : ℕ) (o : Owner) → slice_get owners i ≡ Some o → is_owner n c o ≡ true → ⊥)
      → name_of n c (naming_of owners given) ≡ None
  absent [] given same h = refl
  absent (o ∷ owners) [] same h = absurd (omega arith)
  absent (o ∷ owners) (s ∷ given) same h =
      by (is_of n c (named_row o s)) refl (absent owners given (omega arith) (λ i p at is. h (suc i) p at is))
    where
      by : (b : Bool) → is_of n c (named_row o s) ≡ b → name_of n c (naming_of owners given) ≡ None
          → name_of n c (naming_of (o ∷ owners) (s ∷ given)) ≡ None
      by true is rest = absurd (h zero o refl (same_test n c o s ∙ is))
      by false is rest = rw is rest

  pub found_at : (owners : List Owner) (given : List (String Global)) → length owners ≡ length given → (i : ℕ) (o : Owner)
      → slice_get owners i ≡ Some o → is_owner n c o ≡ true
      → ((k : ℕ) (p : Owner) → slice_get owners k ≡ Some p → is_owner n c p ≡ true → k ≡ i)
      → name_of n c (naming_of owners given) ≡ option_map string_bytes (slice_get given i)
  found_at [] given same i o at is one = cc
  found_at (p ∷ owners) [] same i o at is one = absurd (omega arith)
  found_at (p ∷ owners) (s ∷ given) same zero o at is one =
      let here : is_owner n c p ≡ true = (let e : p ≡ o = cc in ap (is_owner n c) e ∙ is) in
      let test : is_of n c (named_row p s) ≡ true = sym (same_test n c p s) ∙ here in
      rw test refl
  found_at (p ∷ owners) (s ∷ given) same (suc j) o at is one =
      by (is_of n c (named_row p s)) refl
      (found_at owners given (omega arith) j o at is (λ k q there owns. let e = one (suc k) q there owns in omega (arith, e)))
    where
      by : (b : Bool) → is_of n c (named_row p s) ≡ b → name_of n c (naming_of owners given) ≡ option_map string_bytes (slice_get given j)
          → name_of n c (naming_of (p ∷ owners) (s ∷ given)) ≡ option_map string_bytes (slice_get given j)
      by true test rest = let e = one zero p refl (same_test n c p s ∙ test) in absurd (omega (arith, e))
      by false test rest = rw test rest

  some_equal : (i k : ℕ) → Some i ≡ Some k → k ≡ i
  some_equal i k e = cc

  -- what the noted place says of the name
  module _ (owners : List Owner) (given : List (String Global)) (place : ℕ → Contract → Option ℕ) (same : length owners ≡ length given)
      (h : ArePlaced owners place) where
    own : (k : ℕ) (p : Owner) → slice_get owners k ≡ Some p → is_owner n c p ≡ true → place n c ≡ Some k
    own k p at is = own_place owners place h n c k p at is

    pub not_placed : place n c ≡ None → name_of n c (naming_of owners given) ≡ None
    not_placed says = absent owners given same (λ k p at is. let e = own k p at is in cc)

    module _ (i : ℕ) (says : place n c ≡ Some i) where
      alone : (k : ℕ) (p : Owner) → slice_get owners k ≡ Some p → is_owner n c p ≡ true → slice_get owners i ≡ Some p
      alone k p at is = subst (λ m. slice_get owners m ≡ Some p) (some_equal i k (sym says ∙ own k p at is)) at

      pub placed_past : slice_get owners i ≡ None → name_of n c (naming_of owners given) ≡ None
      placed_past none = absent owners given same (λ k p at is. let there = alone k p at is in cc)

      pub placed_own : (o : Owner) → slice_get owners i ≡ Some o → is_owner n c o ≡ true
          → name_of n c (naming_of owners given) ≡ option_map string_bytes (slice_get given i)
      placed_own o at is =
          found_at owners given same i o at is (λ k p has own_is. some_equal i k (sym says ∙ own k p has own_is))

      pub placed_other : (o : Owner) → slice_get owners i ≡ Some o → is_owner n c o ≡ false → name_of n c (naming_of owners given) ≡ None
      placed_other o at is = absent owners given same (λ k p has own_is.
          let there = alone k p has own_is in
          let equal : p ≡ o = same_Some p o (sym there ∙ at) in
          true≢false (sym own_is ∙ (ap (is_owner n c) equal ∙ is)))

-- ---- fewer owners: nothing has to be taken out of the table

pub placed_take : (k : ℕ) (owners : List Owner) (place : ℕ → Contract → Option ℕ) → ArePlaced owners place → ArePlaced (take k owners) place
placed_take k owners place h i o at = h i o (at_in_take k owners i o at)

-- ---- one owner more

own_true : (o : Owner) → is_owner o.row o.contract o ≡ true
own_true o = by o.contract
  where
    row : (o.row == o.row) ≡ true
    row = grind (arith, nat_tests)

    by : (c : Contract) → is_owner o.row c (record { row = o.row; contract = c }) ≡ true
    by Deserialize = ap (λ b. b && true) row
    by Serialize = ap (λ b. b && true) row

pub placed_push : (owners : List Owner) (old new : ℕ → Contract → Option ℕ) (n : ℕ) (c : Contract) → ArePlaced owners old
    → list_any (is_owner n c) owners ≡ false → new n c ≡ Some (length owners)
    → ((m : ℕ) (d : Contract) → (n ≡ m → c ≡ d → ⊥) → new m d ≡ old m d)
    → ArePlaced (owners ++ (record { row = n; contract = c }) ∷ []) new
placed_push owners old new n c h none here others i o at = by (last_or_before owners (record { row = n; contract = c }) i o at)
  where
    by : (slice_get owners i ≡ Some o) ⊎ ((i ≡ length owners) × (o ≡ record { row = n; contract = c })) → new o.row o.contract ≡ Some i
    by (inl before) = others o.row o.contract (λ m d. never_among (is_owner n c) owners i o none before
        ((λ j. is_owner (m j) (d j) o) ∙ own_true o)) ∙ h i o before
    by (inr last) = (λ j. new (last.1 j).row (last.1 j).contract) ∙ (here ∙ ap Some (sym last.0))

-- the same owners, with a table that says the same
pub placed_same : (owners more : List Owner) (old new : ℕ → Contract → Option ℕ) → more ≡ owners
    → ((m : ℕ) (d : Contract) → new m d ≡ old m d) → ArePlaced owners old → ArePlaced more new
placed_same owners more old new same all h i o at = all o.row o.contract ∙ h i o (ap (λ os. slice_get os i) (sym same) ∙ at)
