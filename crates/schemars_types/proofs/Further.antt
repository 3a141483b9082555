-- What is known of the rows of a checked table stays as rows join, so that only these need a look.
use Rattle.std.proofs.Common.{◌≡◌, ◌<◌, ◌≤◌, ◌∙◌, inl, inr, ℕ, zero, suc, List, [], ◌∷◌, ◌++◌, Option, Some, None, IsSome, false, true≢false, length, take, Contains, MatchOption, refl, ap, sym, subst, arith}
use Rattle.schemars_types.proofs.Words.{option_and_then, option_map_or, cases_lt, Contains-append_cases, Text, AreDistinctLists, IsFirstRepeated, Entry, numbers_of, same_value_numbers, flattened_numbers, asked_numbers, option_of, names_of, Row, entry_at, Walk, one, then, Leads, OnCycle, IsFree, IsLeast, FaultFrom, EdgeFrom, option_at, below_within, below, below_all, asked_in, asked_at, DirectEdge, SameValueEdge, height, rank, names_at, targets_along, IsUndefined, HasRepeated, OnDirectCycle, OnEmptyCycle, IsChecked, Contains-later, nothing_among, walk_along}
use Rattle.schemars_types.specs.declared.check.faults.EdgeKind.TheVariants.{Direct, SameValue}
use Rattle.schemars_types.proofs.EdgeLemmas.{Contains-cons, to_direct}
use Rattle.schemars_types.proofs.Asked.{asked, asked_number, flattened_number, option_asked}
use Rattle.schemars_types.proofs.Settling.{entry_at-take, length-take}
use Rattle.schemars_types.proofs.Accepted.{to_same_value, direct_cycles, empty_cycles, none_repeated, least_repeated}

-- ---- closed walks

-- where something falls along the edges below `from`, which stay there, no closed walk has a number below it
module _ (Edge : ℕ → ℕ → Type 0) (from : ℕ) (level : ℕ → ℕ)
    (falls : (n m : ℕ) → n < from → Edge n m → (m < from) × (level m < level n)) where
  walk_falls : (n m : ℕ) → n < from → Walk Edge n m → (m < from) × (level m < level n)
  walk_falls n m low (one m' e) = falls n m' low e
  walk_falls n m low (then k m' w e) =
      let so_far = walk_falls n k low w in
      let last = falls k m' so_far.0 e in
      (last.0, omega (arith, so_far.1, last.1))

  start : (n m : ℕ) → Edge n m → from ≤ m → from ≤ n
  start n m e high = elim (cases_lt n from) [
    | inl low ↦ absurd (let stays = falls n m low e in omega (arith, stays.0))
    | inr above ↦ above
  ]

  walk_from : (n m : ℕ) → Walk Edge n m → from ≤ m → Walk (EdgeFrom from Edge) n m
  walk_from n m (one m' e) high = one m' (start n m' e high, high, e)
  walk_from n m (then k m' w e) high =
      let before = start k m' e high in then k m' (walk_from n k w before) (before, high, e)

  cycle_from : (n : ℕ) → OnCycle Edge n → OnCycle (EdgeFrom from Edge) n
  cycle_from n w = elim (cases_lt n from) [
    | inl low ↦ absurd (let back = walk_falls n n low w in omega (arith, back.1))
    | inr high ↦ walk_from n n w high
  ]

  cycle_of : (n : ℕ) → OnCycle (EdgeFrom from Edge) n → OnCycle Edge n
  cycle_of n w = walk_along (EdgeFrom from Edge) Edge (λ k m e. e.2) n n w

  later_cycles : (r : Option ℕ) → MatchOption r (IsFree (OnCycle (EdgeFrom from Edge))) (IsLeast (OnCycle (EdgeFrom from Edge)))
      → MatchOption r (IsFree (OnCycle Edge)) (IsLeast (OnCycle Edge))
  later_cycles None free = λ n w. free n (cycle_from n w)
  later_cycles (Some n) least = (cycle_of n least.0, λ k below w. least.1 k below (cycle_from k w))

-- ---- the first rows of a table

length-take_most : (k : ℕ) (rows : List Row) → length (take k rows) ≤ k
length-take_most zero rows = omega arith
length-take_most (suc k) [] = omega arith
length-take_most (suc k) (r ∷ rows) = omega (arith, length-take_most k rows)

length-take_both : (k : ℕ) (rows : List Row) (n : ℕ) → n < k → n < length rows → n < length (take k rows)
length-take_both zero rows n low known = absurd (omega arith)
length-take_both (suc k) [] n low known = absurd (omega arith)
length-take_both (suc k) (r ∷ rows) zero low known = omega arith
length-take_both (suc k) (r ∷ rows) (suc n) low known = omega (arith, length-take_both k rows n (omega arith) (omega arith))

-- the rows below a row m that holds row k, or none
abbrev under : List Row → ℕ → Option ℕ → List ℕ
under rows steps o = option_map_or (λ k. k ∷ below_within rows steps k) o []

module _ (rows : List Row) (from : ℕ) (checked : IsChecked (take from rows)) where
  abbrev first : List Row
  first = take from rows

  first_low : (n : ℕ) → n < length first → n < from
  first_low n known = omega (arith, length-take_most from rows)

  entry_same : (n : ℕ) → n < from → entry_at rows n ≡ entry_at first n
  entry_same n low = sym (entry_at-take from rows n low)

  option_same : (n : ℕ) → n < from → option_at rows n ≡ option_at first n
  option_same n low = ap (option_and_then (λ e. option_of e.shape)) (entry_same n low)

  -- ---- rows without an entry, and names

  undefined_from : (n : ℕ) → IsUndefined rows n → from ≤ n
  undefined_from n (known, none) = elim (cases_lt n from) [
    | inl low ↦ absurd (never low (checked.defined n (length-take_both from rows n low known)))
    | inr high ↦ high
  ]
    where
      never : n < from → IsSome (entry_at first n) → ⊥
      never low some =
          true≢false (sym (subst (λ (o : Option Entry). IsSome o) (sym (entry_same n low) ∙ none) some))

  pub all_defined : IsFree (FaultFrom from (IsUndefined rows)) → IsFree (IsUndefined rows)
  all_defined free n fault = free n (undefined_from n fault, fault)

  pub least_undefined : (n : ℕ) → IsLeast (FaultFrom from (IsUndefined rows)) n → IsLeast (IsUndefined rows) n
  least_undefined n least = (least.0.1, λ k below fault. least.1 k below (undefined_from k fault, fault))

  names_same : (n : ℕ) → n < from → AreDistinctLists (names_at rows n)
  names_same n low = subst (λ (names : List (List Text)). AreDistinctLists names)
      (ap (λ o. option_map_or (λ e. names_of e.shape) o []) (sym (entry_same n low))) (checked.names_differ n)

  pub none_repeated_from : ((n : ℕ) → from ≤ n → AreDistinctLists (names_at rows n)) → IsFree (HasRepeated rows)
  none_repeated_from differ = none_repeated rows (λ n. elim (cases_lt n from) [ inl low ↦ names_same n low | inr high ↦ differ n high ])

  pub least_repeated_from : (n : ℕ) (name : Text) → ((k : ℕ) → from ≤ k → k < n → AreDistinctLists (names_at rows k))
      → IsFirstRepeated (names_at rows n) name → IsLeast (HasRepeated rows) n
  least_repeated_from n name differ r = least_repeated rows n name
      (λ k below. elim (cases_lt k from) [ inl low ↦ names_same k low | inr high ↦ differ k high below ]) r

  -- ---- the rows below Options

  below_same : (few many m : ℕ) → m < length first → rank first m < few → few ≤ many
      → below_within rows many m ≡ below_within first few m
  below_same zero many m known low less = absurd (omega arith)
  below_same (suc few) zero m known low less = absurd (omega arith)
  below_same (suc few) (suc many) m known low less = by (option_at first m) refl (below_same few many)
    where
      same : option_at rows m ≡ option_at first m
      same = option_same m (first_low m known)

      by : (o : Option ℕ) → option_at first m ≡ o
          → ((k : ℕ) → k < length first → rank first k < few → few ≤ many → below_within rows many k ≡ below_within first few k)
          → under rows many (option_at rows m) ≡ under first few (option_at first m)
      by None at rest = ap (under rows many) (same ∙ at) ∙ ap (under first few) (sym at)
      by (Some k) at rest =
          let edge = option_asked first checked.within m k at in
          let falls = checked.rank_falls m k edge in
          ap (under rows many) (same ∙ at)
          ∙ (ap (λ ks. k ∷ ks) (rest k edge.1 (omega arith) (omega arith)) ∙ ap (under first few) (sym at))

  below_all-same : (ns : List ℕ) → ((n : ℕ) → Contains ns n → n < length first) → below_all rows ns ≡ below_all first ns
  below_all-same [] known = refl
  below_all-same (n ∷ ns) known =
      let here : n < length first = known n (0, omega arith, refl) in
      let head : below rows n ≡ below first n =
      below_same (length first) (length rows) n here (checked.rank_bound n here) (length-take from rows) in
      let tail : below_all rows ns ≡ below_all first ns = below_all-same ns (λ m c. known m (Contains-later n m ns c)) in
      λ i. head i ++ tail i

  below_known : (steps n m : ℕ) → Contains (below_within first steps n) m → m < length first
  below_known zero n m among = absurd (nothing_among m among)
  below_known (suc steps) n m among = by (option_at first n) refl among (below_known steps)
    where
      by : (o : Option ℕ) → option_at first n ≡ o → Contains (under first steps o) m
          → ((k m : ℕ) → Contains (below_within first steps k) m → m < length first) → m < length first
      by None at h rest = absurd (nothing_among m h)
      by (Some k) at h rest = elim (Contains-cons k m (below_within first steps k) h) [
        | inl same ↦ let edge = option_asked first checked.within n k at in omega (arith, edge.1)
        | inr later ↦ rest k m later
      ]

  below_all-known : (ns : List ℕ) (m : ℕ) → Contains (below_all first ns) m → m < length first
  below_all-known [] m among = absurd (nothing_among m among)
  below_all-known (n ∷ ns) m among = elim (Contains-append_cases (below first n) (below_all first ns) m among) [
    | inl here ↦ below_known (length first) n m here
    | inr later ↦ below_all-known ns m later
  ]

  -- ---- edges from the first rows

  entry_numbers : (n : ℕ) (e : Entry) → entry_at first n ≡ Some e → (m : ℕ) → Contains (numbers_of e.shape) m → m < length first
  entry_numbers n e at m c =
      let P : List ℕ → Type 0 = λ ns. Contains ns m in
      checked.within.within n m (subst P (sym (ap (λ o. option_map_or (λ x. numbers_of x.shape) o []) at)) c)

  first_asked : (n m : ℕ) → n < from → Contains (asked_at rows n) m → Contains (asked_at first n) m × (m < length first)
  first_asked n m low among =
      by (entry_at first n) refl (subst P (ap (λ o. option_map_or (λ e. asked_in rows e.shape) o []) (entry_same n low)) among)
    where
      P : List ℕ → Type 0
      P ns = Contains ns m

      by : (o : Option Entry) → entry_at first n ≡ o → Contains (option_map_or (λ e. asked_in rows e.shape) o []) m
          → Contains (asked_at first n) m × (m < length first)
      by None at h = absurd (nothing_among m h)
      by (Some e) at h =
          let flattened = flattened_numbers e.shape in
          let same = below_all-same flattened (λ k c. entry_numbers n e at k (flattened_number e.shape k c)) in
          let here : Contains (asked_in first e.shape) m = subst P (ap (λ ns. asked_numbers e.shape ++ ns) same) h in (
            subst P (sym (ap (λ o. option_map_or (λ x. asked_in first x.shape) o []) at)) here,
            elim (Contains-append_cases (asked_numbers e.shape) (below_all first flattened) m here) [
              | inl own ↦ entry_numbers n e at m (asked_number e.shape m own)
              | inr lower ↦ below_all-known flattened m lower
            ],
          )

  first_direct : (n m : ℕ) → n < from → DirectEdge rows n m → DirectEdge first n m × (m < length first)
  first_direct n m low (inl e) =
      let P : List ℕ → Type 0 = λ ns. Contains ns m in
      let among = subst P (ap (λ o. option_map_or (λ x. numbers_of x.shape) o []) (entry_same n low)) e.0 in
      let known = checked.within.within n m among in
      let inline = ap (λ o. option_map_or (λ x. x.inline) o false) (sym (entry_same m (first_low m known))) ∙ e.1 in
      (inl (among, inline), known)
  first_direct n m low (inr e) = let edge = first_asked n m low e.0 in (inr edge, edge.1)

  first_same_value : (n m : ℕ) → n < from → SameValueEdge rows n m → SameValueEdge first n m
  first_same_value n m low e =
      by (entry_at first n) refl (subst P (ap (λ o. option_map_or (λ x. same_value_numbers x.shape) o []) (entry_same n low)) e.0)
    where
      P : List ℕ → Type 0
      P ns = Contains ns m

      by : (o : Option Entry) → entry_at first n ≡ o → Contains (option_map_or (λ x. same_value_numbers x.shape) o []) m
          → SameValueEdge first n m
      by None at h = absurd (nothing_among m h)
      by (Some x) at h = asked first checked.within n x at m h

  -- ---- cycles

  pub direct_cycles_from : (r : Option ℕ)
      → MatchOption r (IsFree (OnCycle (EdgeFrom from (Leads (targets_along Direct rows)))))
      (IsLeast (OnCycle (EdgeFrom from (Leads (targets_along Direct rows)))))
      → MatchOption r (IsFree (OnDirectCycle rows)) (IsLeast (OnDirectCycle rows))
  direct_cycles_from r h = direct_cycles rows r
      (later_cycles (Leads (targets_along Direct rows)) from (height first) falls r h)
    where
      falls : (n m : ℕ) → n < from → Leads (targets_along Direct rows) n m → (m < from) × (height first m < height first n)
      falls n m low leads =
          let edge = first_direct n m low (to_direct rows n m leads) in
          (first_low m edge.1, checked.height_falls n m edge.0)

  pub empty_cycles_from : (r : Option ℕ)
      → MatchOption r (IsFree (OnCycle (EdgeFrom from (Leads (targets_along SameValue rows)))))
      (IsLeast (OnCycle (EdgeFrom from (Leads (targets_along SameValue rows)))))
      → MatchOption r (IsFree (OnEmptyCycle rows)) (IsLeast (OnEmptyCycle rows))
  empty_cycles_from r h = empty_cycles rows r
      (later_cycles (Leads (targets_along SameValue rows)) from (rank first) falls r h)
    where
      falls : (n m : ℕ) → n < from → Leads (targets_along SameValue rows) n m → (m < from) × (rank first m < rank first n)
      falls n m low leads =
          let edge = first_same_value n m low (to_same_value rows n m leads) in
          (first_low m edge.1, checked.rank_falls n m edge)

-- ---- the table without rows

no_direct : (n m : ℕ) → DirectEdge [] n m → ⊥
no_direct n m (inl e) = nothing_among m e.0
no_direct n m (inr e) = nothing_among m e.0

pub checked_none : IsChecked []
unfolding height
checked_none = record {
  within = record { within = λ n m among. absurd (nothing_among m among) };
  defined = λ n below. absurd (omega arith);
  names_differ = λ n. tt;
  height_bound = λ n. omega arith;
  height_falls = λ n m e. absurd (no_direct n m e);
  rank_bound = λ n below. absurd (omega arith);
  rank_falls = λ n m e. absurd (nothing_among m e.0);
}
