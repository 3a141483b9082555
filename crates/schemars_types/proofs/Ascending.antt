-- Where each edge leads to a later row, or to one that refers to none, no walk closes.
use Rattle.std.proofs.Common.{◌≡◌, ◌<◌, ◌≤◌, ◌+◌, ◌⊎◌, ◌∙◌, inl, inr, ℕ, List, [], ◌∷◌, All, Bool, true, false, not, is_some, Option, Some, None, length, cond, find, nat_le, Contains, refl, sym, ap, subst, arith}
use Rattle.schemars_types.proofs.Words.{OnTrue, option_map_or, cases_eq, nat_tests, All-contains, Contains-append_cases, Shape, Entry, numbers_of, same_value_numbers, asked_numbers, flattened_numbers, Row, entry_at, Walk, one, then, Leads, OnCycle, IsFree, EdgeFrom, numbers_at, is_row, asked_in, below_all, same_value_numbers_at, targets_along, LeadsOn, Ascends, nothing_among}
use Rattle.schemars_types.specs.declared.check.faults.EdgeKind.{EdgeKind}
use Rattle.schemars_types.specs.declared.check.faults.EdgeKind.TheVariants.{Direct, SameValue}
use Rattle.schemars_types.proofs.Asked.{same_number, flattened_number, asked_number}
use Rattle.schemars_types.proofs.EdgeLemmas.{Contains-filter, to_direct, ends_within}

-- no number is below 0
none_unknown : (ns : List ℕ) → find (λ m. nat_le 0 m) ns ≡ None → ns ≡ []
none_unknown [] none = refl
none_unknown (n ∷ ns) none = let known : nat_le 0 n ≡ true = grind (arith, nat_tests) in
    let never : Some n ≡ None = sym (ap (λ b. cond b (Some n) (find (λ m. nat_le 0 m) ns)) known) ∙ none in cc

pub none_if : (b : Bool) (o : Option ℕ) (ns ms : List ℕ) → is_some o ≡ not b → o ≡ find (λ m. nat_le 0 m) ns → ms ≡ ns → OnTrue b (ms ≡ [])
none_if true None ns ms some is same = same ∙ none_unknown ns (sym is)
none_if true (Some n) ns ms some is same = cc
none_if false o ns ms some is same = tt

none_among : (xs : List ℕ) → ((m : ℕ) → Contains xs m → ⊥) → xs ≡ []
none_among [] none = refl
none_among (x ∷ xs) none = absurd (none x (0, omega arith, refl))

among_none : (xs : List ℕ) (m : ℕ) → xs ≡ [] → Contains xs m → ⊥
among_none xs m empty among = nothing_among m (subst (λ (ys : List ℕ). Contains ys m) empty among)

asks_none : (rows : List Row) (s : Shape) (m : ℕ) → numbers_of s ≡ [] → Contains (asked_in rows s) m → ⊥
asks_none rows s m empty among =
    let flattened : flattened_numbers s ≡ [] =
    none_among (flattened_numbers s) (λ k c. among_none (numbers_of s) k empty (flattened_number s k c)) in
    elim (Contains-append_cases (asked_numbers s) (below_all rows (flattened_numbers s)) m among) [
      | inl c ↦ among_none (numbers_of s) m empty (asked_number s m c)
      | inr c ↦ among_none (below_all rows (flattened_numbers s)) m (ap (below_all rows) flattened) c
    ]

-- a row that refers to none has no edges
leads_nowhere : (kind : EdgeKind) (rows : List Row) (n m : ℕ) → numbers_at rows n ≡ [] → Contains (targets_along kind rows n) m → ⊥
leads_nowhere Direct rows n m empty among = elim (to_direct rows n m among) [
  | inl e ↦ among_none (numbers_at rows n) m empty e.0
  | inr e ↦ by (entry_at rows n) empty e.0
]
  where
    by : (o : Option Entry) → option_map_or (λ e. numbers_of e.shape) o [] ≡ []
        → Contains (option_map_or (λ e. asked_in rows e.shape) o []) m → ⊥
    by None none c = nothing_among m c
    by (Some e) none c = asks_none rows e.shape m none c
leads_nowhere SameValue rows n m empty among =
    by (entry_at rows n) empty (Contains-filter (is_row rows) (same_value_numbers_at rows n) m among).0
  where
    by : (o : Option Entry) → option_map_or (λ e. numbers_of e.shape) o [] ≡ []
        → Contains (option_map_or (λ e. same_value_numbers e.shape) o []) m → ⊥
    by None none c = nothing_among m c
    by (Some e) none c = among_none (numbers_of e.shape) m none (same_number e.shape m c)

pub all_nowhere : (P : ℕ → Type 0) (kind : EdgeKind) (rows : List Row) (n : ℕ) → numbers_at rows n ≡ []
    → All P (targets_along kind rows n)
all_nowhere P kind rows n empty =
    let none = none_among (targets_along kind rows n) (λ m c. leads_nowhere kind rows n m empty c) in
    subst (λ (ms : List ℕ). All P ms) (sym none) (λ k d below. absurd (omega (arith, below)))

module _ (kind : EdgeKind) (rows : List Row) (from : ℕ) where
  abbrev Edge : ℕ → ℕ → Type 0
  Edge = EdgeFrom from (Leads (targets_along kind rows))

  first_edge : (n m : ℕ) → Walk Edge n m → (k : ℕ) × Edge n k
  first_edge n m (one m' e) = (m', e)
  first_edge n m (then k m' w e) = first_edge n k w

  leads_somewhere : (n m : ℕ) → Edge n m → numbers_at rows n ≡ [] → ⊥
  leads_somewhere n m e empty = leads_nowhere kind rows n m empty e.2

  -- a walk ends at a later row, or at one that refers to none
  walk_ascends : Ascends kind rows from → (n m : ℕ) → Walk Edge n m → (n < m) ⊎ (numbers_at rows m ≡ [])
  walk_ascends h n m (one m' e) = (h.leads n m' e.0 e.2).on e.1
  walk_ascends h n m (then k m' w e) = by (walk_ascends h n k w) ((h.leads k m' e.0 e.2).on e.1)
    where
      by : (n < k) ⊎ (numbers_at rows k ≡ []) → (k < m') ⊎ (numbers_at rows m' ≡ []) → (n < m') ⊎ (numbers_at rows m' ≡ [])
      by (inl first) (inl second) = inl (omega (arith, first, second))
      by first (inr nowhere) = inr nowhere
      by (inr nowhere) second = absurd (leads_somewhere k m' e nowhere)

  pub free_from_ascending : Ascends kind rows from → IsFree (OnCycle Edge)
  free_from_ascending h n w = let (k, e) = first_edge n n w in elim (walk_ascends h n n w) [
    | inl above ↦ omega (arith, above)
    | inr nowhere ↦ leads_somewhere n k e nowhere
  ]

  -- the rows before, and one more
  pub ascends_more : (n : ℕ) → ((k m : ℕ) → from ≤ k → k < n → Contains (targets_along kind rows k) m → LeadsOn rows from k m)
      → All (LeadsOn rows from n) (targets_along kind rows n)
      → (k m : ℕ) → from ≤ k → k < n + 1 → Contains (targets_along kind rows k) m → LeadsOn rows from k m
  ascends_more n before here k m low below among = elim (cases_eq k n) [
    | inl same ↦
        let there = subst (λ j. Contains (targets_along kind rows j) m) same among in
        subst (λ j. LeadsOn rows from j m) (sym same) (All-contains (LeadsOn rows from n) (targets_along kind rows n) m here there)
    | inr other ↦ before k m low (omega arith) among
  ]

  -- all rows
  pub ascends_all : (n : ℕ) → length rows ≤ n
      → ((k m : ℕ) → from ≤ k → k < n → Contains (targets_along kind rows k) m → LeadsOn rows from k m)
      → Ascends kind rows from
  ascends_all n all before = record {
    leads = λ k m low among. let ends = ends_within kind rows k m among in before k m low (omega (arith, ends.0)) among;
  }
