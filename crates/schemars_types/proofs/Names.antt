-- Names that differ, and names that stand twice.
use Rattle.std.proofs.Common.{◌≡◌, ◌<◌, ◌≤◌, ◌+◌, ◌∙◌, ◌⊎◌, inl, inr, ℕ, zero, suc, List, [], ◌∷◌, ◌++◌, Bool, true, false, Option, Some, None, is_some, option_map, option_and_then, length, take, get_or, refl, sym, ap, subst, arith, true≢false}
use Rattle.schemars_types.proofs.Words.{IsDistinct, list_any, bytes_eq, cases_lt, nat_list_eq_equiv, take_more, take_all, IsDistinct-push, apart_from_distinct, slice_get_within, slice_get_past, slice_get-get_or, get_or_from_slice_get, bytes_eq-Decides, Text, IsRepeated, AreDistinctLists, IsFirstRepeated, Contains-from_any, Row, entry_at, names_at}

take_at : (names : List Text) (place k : ℕ) (d : Text) → k < length (take place names)
    → (get_or (take place names) k d ≡ get_or names k d) × (k < place)
take_at names zero k d below = absurd (omega arith)
take_at [] (suc place) k d below = absurd (omega arith)
take_at (x ∷ names) (suc place) zero d below = (refl, omega arith)
take_at (x ∷ names) (suc place) (suc k) d below = let (same, lower) = take_at names place k d (omega arith) in (same, omega arith)

-- names that differ have none twice
pub never_repeated : (names : List Text) (name : Text) → IsDistinct bytes_eq names → IsRepeated names name → ⊥
never_repeated names name distinct r =
    let (k, below, is) = r.is_before in
    let (same, lower) = take_at names r.place k name below in
    let within : r.place < length names = slice_get_within names r.place name r.is_there in
    let differ : bytes_eq (get_or names k name) (get_or names r.place name) ≡ false =
    apart_from_distinct bytes_eq names k r.place name distinct lower within in
    let first : get_or names k name ≡ name = sym same ∙ is in
    let second : get_or names r.place name ≡ name = get_or_from_slice_get names r.place name name r.is_there in
    true≢false (sym ((bytes_eq-Decides (get_or names k name) (get_or names r.place name)).1 (first ∙ sym second)) ∙ differ)

differ_or_repeated : (names : List Text) (i : ℕ) → i ≤ length names
    → IsDistinct bytes_eq (take i names) ⊎ ((name : Text) × IsRepeated names name)
unfolding IsDistinct
differ_or_repeated names zero below = inl tt
differ_or_repeated names (suc i) below = elim (differ_or_repeated names i (omega arith))
    [ inl differ ↦ one_more differ (list_any (bytes_eq (get_or names i [])) (take i names)) refl | inr r ↦ inr r ]
  where
    one_more : IsDistinct bytes_eq (take i names) → (b : Bool) → list_any (bytes_eq (get_or names i [])) (take i names) ≡ b
        → IsDistinct bytes_eq (take (suc i) names) ⊎ ((name : Text) × IsRepeated names name)
    one_more differ true e =
        inr (
          get_or names i [],
          record {
            place = i;
            is_there = slice_get-get_or names i [] (omega arith);
            is_before = Contains-from_any (get_or names i []) (take i names) e;
            is_first = differ;
          },
        )
    one_more differ false e =
        let next : suc i ≡ i + 1 = omega arith in
        let grown : take (suc i) names ≡ take i names ++ get_or names i [] ∷ [] =
        ap (λ (n : ℕ). take n names) next ∙ take_more names i [] (omega arith) in
        inl (subst (λ (ns : List Text). IsDistinct bytes_eq ns) (sym grown)
        (IsDistinct-push nat_list_eq_equiv (take i names) (get_or names i []) differ e))

pub never_first_repeated : (lists : List (List Text)) (name : Text) → AreDistinctLists lists → IsFirstRepeated lists name → ⊥
never_first_repeated [] name distinct r = r
never_first_repeated (names ∷ lists) name distinct (inl r) = never_repeated names name distinct.0 r
never_first_repeated (names ∷ lists) name distinct (inr r) = never_first_repeated lists name distinct.1 r.1

pub lists_differ_or_repeated : (lists : List (List Text)) → AreDistinctLists lists ⊎ ((name : Text) × IsFirstRepeated lists name)
lists_differ_or_repeated [] = inl tt
lists_differ_or_repeated (names ∷ lists) =
    elim (differ_or_repeated names (length names) (omega arith)) [
      | inl differ ↦ behind (all differ) (lists_differ_or_repeated lists)
      | inr r ↦ inr (r.0, inl r.1)
    ]
  where
    all : IsDistinct bytes_eq (take (length names) names) → IsDistinct bytes_eq names
    all differ = subst (λ (ns : List Text). IsDistinct bytes_eq ns) (take_all (length names) names (omega arith)) differ

    behind : IsDistinct bytes_eq names → AreDistinctLists lists ⊎ ((name : Text) × IsFirstRepeated lists name)
        → AreDistinctLists (names ∷ lists) ⊎ ((name : Text) × IsFirstRepeated (names ∷ lists) name)
    behind differ (inl later) = inl (differ, later)
    behind differ (inr r) = inr (r.0, inr (differ, r.1))

pub differ_undefined : (rows : List Row) (n : ℕ) → entry_at rows n ≡ None → AreDistinctLists (names_at rows n)
differ_undefined rows n none = rw none tt

pub differ_past : (rows : List Row) (len : ℕ) → length rows ≤ len → (n : ℕ) → (n < len → AreDistinctLists (names_at rows n))
    → AreDistinctLists (names_at rows n)
differ_past rows len all n differ = elim (cases_lt n (length rows)) [
  | inl below ↦ differ (omega arith)
  | inr past ↦ differ_undefined
      rows n (ap (option_and_then (λ r. r.entry)) (slice_get_past rows n past))
]

pub none_from_not_some : {A B : Type 0} (f : A → B) (o : Option A) → is_some o ≡ false → option_map f o ≡ None
none_from_not_some f None h = refl
none_from_not_some f (Some a) h = absurd (true≢false h)
