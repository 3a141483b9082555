-- The edges of a table lie among its rows, and a graph of targets has the same walks.
use Rattle.std.proofs.Common.{◌≡◌, ◌<◌, ◌≤◌, ◌+◌, ◌-◌, ◌∙◌, ◌⊎◌, inl, inr, ℕ, zero, suc, List, [], ◌∷◌, ◌++◌, Bool, true, false, Some, None, length, filter, map, cond, nat_le, Contains, refl, sym, ap, subst, arith, true≢false, append_assoc, append-nil}
use Rattle.schemars_types.proofs.Words.{option_map_or, Contains-append_left, Contains-append_right, Contains-append_cases, lt-ltb, ltb-true, leb-true, leb-false, Entry, numbers_of, same_value_numbers, Row, entry_at, Walk, one, then, Leads, OnCycle, IsFree, IsLeast, EdgeFrom, Graph, targets_in, IsClosed, HasTargets, counted_from, numbers_at, is_inline_at, asked_in, asked_at, is_row, DirectEdge, same_value_numbers_at, option_at, below_within, targets_along, targets_from, Contains-later, nothing_among, targets_in-within, walk_within, walk_under}
use Rattle.schemars_types.specs.declared.check.faults.EdgeKind.{EdgeKind}
use Rattle.schemars_types.specs.declared.check.faults.EdgeKind.TheVariants.{Direct, SameValue}

pub Contains-cons : (x m : ℕ) (xs : List ℕ) → Contains (x ∷ xs) m → (x ≡ m) ⊎ Contains xs m
Contains-cons x m xs (zero, below, is) = inl is
Contains-cons x m xs (suc k, below, is) = inr (k, omega arith, is)

pub Contains-filter : (test : ℕ → Bool) (xs : List ℕ) (m : ℕ) → Contains (filter test xs) m → Contains xs m × (test m ≡ true)
Contains-filter test [] m (k, below, is) = absurd (omega arith)
Contains-filter test (x ∷ xs) m among = by (test x) refl among (Contains-filter test xs m)
  where
    by : (b : Bool) → test x ≡ b → Contains (cond b (x ∷ filter test xs) (filter test xs)) m
        → (Contains (filter test xs) m → Contains xs m × (test m ≡ true)) → Contains (x ∷ xs) m × (test m ≡ true)
    by true e h rest = elim (Contains-cons x m (filter test xs) h) [
      | inl same ↦ ((0, omega arith, same), ap test (sym same) ∙ e)
      | inr
          later ↦ let (c, t) = rest later in (Contains-later x m xs c, t)
    ]
    by false e h rest = let (c, t) = rest h in (Contains-later x m xs c, t)

pub Contains-filtered : (test : ℕ → Bool) (xs : List ℕ) (m : ℕ) → Contains xs m → test m ≡ true → Contains (filter test xs) m
Contains-filtered test [] m (k, below, is) t = absurd (omega arith)
Contains-filtered test (x ∷ xs) m among t = by (test x) refl (Contains-cons x m xs among) (λ c. Contains-filtered test xs m c t)
  where
    by : (b : Bool) → test x ≡ b → (x ≡ m) ⊎ Contains xs m → (Contains xs m → Contains (filter test xs) m)
        → Contains (cond b (x ∷ filter test xs) (filter test xs)) m
    by true e (inl same) rest = (0, omega arith, same)
    by true e (inr later) rest = Contains-later x m (filter test xs) (rest later)
    by false e (inl same) rest = absurd (true≢false (sym t ∙ ap test (sym same) ∙ e))
    by false e (inr later) rest = rest later

-- where an entry says something of row n, row n is in the table
entry_within : (f : Entry → List ℕ) (rows : List Row) (n m : ℕ) → Contains (option_map_or f (entry_at rows n) []) m → n < length rows
entry_within f [] n m (k, below, is) = absurd (omega arith)
entry_within f (r ∷ rows) zero m among = omega arith
entry_within f (r ∷ rows) (suc n) m among = omega (arith, entry_within f rows n m among)

inline_within : (rows : List Row) (m : ℕ) → is_inline_at rows m ≡ true → m < length rows
inline_within [] m h = cc
inline_within (r ∷ rows) zero h = omega arith
inline_within (r ∷ rows) (suc m) h = omega (arith, inline_within rows m h)

-- the ends of direct edges, one way and the other
pub to_direct : (rows : List Row) (n m : ℕ) → Contains (targets_along Direct rows n) m → DirectEdge rows n m
to_direct rows n m among =
    elim (Contains-append_cases (filter (is_inline_at rows) (numbers_at rows n)) (filter (is_row rows) (asked_at rows n)) m among) [
      | inl c ↦ inl (Contains-filter (is_inline_at rows) (numbers_at rows n) m c)
      | inr c ↦ let (d, t) = Contains-filter (is_row rows) (asked_at rows n) m c in inr (d, ltb-true m (length rows) t)
    ]

pub from_direct : (rows : List Row) (n m : ℕ) → DirectEdge rows n m → Contains (targets_along Direct rows n) m
from_direct rows n m (inl e) =
    Contains-append_left (filter (is_inline_at rows) (numbers_at rows n)) (filter (is_row rows) (asked_at rows n)) m
    (Contains-filtered (is_inline_at rows) (numbers_at rows n) m e.0 e.1)
from_direct rows n m (inr e) =
    Contains-append_right (filter (is_inline_at rows) (numbers_at rows n)) (filter (is_row rows) (asked_at rows n)) m
    (Contains-filtered (is_row rows) (asked_at rows n) m e.0 (lt-ltb m (length rows) e.1))

-- both ends of an edge are rows
pub ends_within : (kind : EdgeKind) (rows : List Row) (n m : ℕ) → Contains (targets_along kind rows n) m
    → (n < length rows) × (m < length rows)
ends_within Direct rows n m among = elim (to_direct rows n m among) [
  | inl e ↦ (entry_within (λ e. numbers_of e.shape) rows n m e.0, inline_within rows m e.1)
  | inr e ↦ (entry_within (λ e. asked_in rows e.shape) rows n m e.0, e.1)
]
ends_within SameValue rows n m among =
    let (c, t) = Contains-filter (is_row rows) (same_value_numbers_at rows n) m among in
    (entry_within (λ e. same_value_numbers e.shape) rows n m c, ltb-true m (length rows) t)

-- ---- the rows below a row

pub below_none : (rows : List Row) (steps n : ℕ) → None ≡ option_at rows n → below_within rows steps n ≡ []
below_none rows zero n none = refl
below_none rows (suc steps) n none = ap (λ o. option_map_or (λ m. m ∷ below_within rows steps m) o []) (sym none)

pub below_some : (rows : List Row) (steps n m : ℕ) → Some m ≡ option_at rows n
    → below_within rows (suc steps) n ≡ m ∷ below_within rows steps m
below_some rows steps n m some = ap (λ o. option_map_or (λ k. k ∷ below_within rows steps k) o []) (sym some)

-- what is below joins what was found
pub below_joins : (found : List ℕ) (rows : List Row) (steps n m : ℕ) (all : List ℕ)
    → Some m ≡ option_at rows n → found ++ below_within rows (suc steps) n ≡ all → (found ++ m ∷ []) ++ below_within rows steps m ≡ all
below_joins found rows steps n m all some is =
    append_assoc found (m ∷ []) (below_within rows steps m) ∙ (ap (λ ms. found ++ ms) (sym (below_some rows steps n m some)) ∙ is)

pub none_joins : (found : List ℕ) (rows : List Row) (steps n : ℕ) (all : List ℕ)
    → None ≡ option_at rows n → found ++ below_within rows steps n ≡ all → found ≡ all
none_joins found rows steps n all none is =
    sym (append-nil found) ∙ (ap (λ ms. found ++ ms) (sym (below_none rows steps n none)) ∙ is)

-- ---- numbers that are counted from another

counted_back : (from : ℕ) (ns : List ℕ) (m : ℕ) → Contains (counted_from from ns) m → Contains ns (from + m)
counted_back from [] m among = absurd (nothing_among m among)
counted_back from (x ∷ ns) m among = by (nat_le from x) refl among (counted_back from ns m)
  where
    by : (b : Bool) → nat_le from x ≡ b → Contains (map (λ k. k - from) (cond b (x ∷ filter (nat_le from) ns) (filter (nat_le from) ns))) m
        → (Contains (counted_from from ns) m → Contains ns (from + m)) → Contains (x ∷ ns) (from + m)
    by true e h rest = let low = leb-true from x e in elim (Contains-cons (x - from) m (counted_from from ns) h) [
      | inl same ↦ (0, omega arith, omega arith)
      | inr later ↦ Contains-later x (from + m) ns (rest later)
    ]
    by false e h rest = Contains-later x (from + m) ns (rest h)

counted_on : (from : ℕ) (ns : List ℕ) (m : ℕ) → from ≤ m → Contains ns m → Contains (counted_from from ns) (m - from)
counted_on from [] m low among = absurd (nothing_among m among)
counted_on from (x ∷ ns) m low among = by (nat_le from x) refl (Contains-cons x m ns among) (counted_on from ns m low)
  where
    by : (b : Bool) → nat_le from x ≡ b → (x ≡ m) ⊎ Contains ns m → (Contains ns m → Contains (counted_from from ns) (m - from))
        → Contains (map (λ k. k - from) (cond b (x ∷ filter (nat_le from) ns) (filter (nat_le from) ns))) (m - from)
    by true e (inl same) rest = (0, omega arith, ap (λ k. k - from) same)
    by true e (inr later) rest = Contains-later (x - from) (m - from) (counted_from from ns) (rest later)
    by false e (inl same) rest = let high = leb-false from x e in absurd (omega arith)
    by false e (inr later) rest = rest later

-- ---- the graph of a table's rows from `from` on

starts_from : (E : ℕ → ℕ → Type 0) (from n m : ℕ) → Walk (EdgeFrom from E) n m → from ≤ n
starts_from E from n m (one m' e) = e.0
starts_from E from n m (then k m' w e) = starts_from E from n k w

module _ (kind : EdgeKind) (rows : List Row) (from : ℕ) (graph : Graph)
    (h : HasTargets (targets_from kind from rows) (length rows - from) graph) where
  abbrev Edge : ℕ → ℕ → Type 0
  Edge = EdgeFrom from (Leads (targets_along kind rows))

  to_table : (n m : ℕ) → Contains (targets_in graph n) m → Edge (from + n) (from + m)
  to_table n m among =
      let below = targets_in-within graph n m among in (
        omega arith,
        omega arith,
        counted_back from (targets_along kind rows (from + n)) m
            (subst (λ (ms : List ℕ). Contains ms m) (h.at n (omega (arith, h.len_is))) among),
      )

  from_table : (n m : ℕ) → Edge n m → Contains (targets_in graph (n - from)) (m - from)
  from_table n m (low, high, among) =
      let ends = ends_within kind rows n m among in
      let back : from + (n - from) ≡ n = omega arith in
      let counted = counted_on from (targets_along kind rows n) m high among in
      let there : targets_in graph (n - from) ≡ counted_from from (targets_along kind rows n) =
      h.at (n - from) (omega (arith, ends.0)) ∙ ap (λ k. counted_from from (targets_along kind rows k)) back in
      subst (λ (ms : List ℕ). Contains ms (m - from)) (sym there) counted

  pub graph_closed : IsClosed graph
  graph_closed = record {
    within = λ n m among. let (low, high, leads) = to_table n m among in
        let ends = ends_within kind rows (from + n) (from + m) leads in
        omega (arith, ends.1, h.len_is);
  }

  pub found_within : (n : ℕ) → OnCycle (Leads (targets_in graph)) n → from + n < length rows
  found_within n cycle = omega (arith, walk_within graph n n cycle, h.len_is)

  into : (n : ℕ) → OnCycle Edge n → OnCycle (Leads (targets_in graph)) (n - from)
  into n w = walk_under Edge (Leads (targets_in graph)) (λ k. k - from) from_table n n w

  pub none_on_cycle : IsFree (OnCycle (Leads (targets_in graph))) → IsFree (OnCycle Edge)
  none_on_cycle free n w = free (n - from) (into n w)

  pub least_on_cycle : (n : ℕ) → IsLeast (OnCycle (Leads (targets_in graph))) n → IsLeast (OnCycle Edge) (from + n)
  least_on_cycle n least = (
    walk_under (Leads (targets_in graph)) Edge (λ k. from + k) to_table n n least.0,
    λ k below w. least.1 (k - from) (omega (arith, starts_from (Leads (targets_along kind rows)) from k k w)) (into k w),
  )
