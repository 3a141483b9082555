-- Members of lists of numbers, the targets of a number, and what closed walks need.
use Rattle.std.proofs.Common.{◌≡◌, ◌<◌, ◌+◌, inl, inr, All, ℕ, zero, suc, List, [], ◌∷◌, Vec, length, get_or, Contains, slice_index, refl, sym, subst, arith}
use Rattle.std.specs.declared.alloc.Global.{Global}
use Rattle.schemars_cycles.proofs.Words.{cases_eq, All-contains, Walk, one, then, Leads, OnCycle, IsFree, Graph, targets_in, Falls}

pub Contains-later : (x m : ℕ) (xs : List ℕ) → Contains xs m → Contains (x ∷ xs) m
Contains-later x m xs (k, below, is) = (suc k, omega arith, is)

pub nothing_among : (m : ℕ) → Contains [] m → ⊥
nothing_among m (k, below, is) = omega arith

pub targets_in-get_or : (graph : Graph) (n : ℕ) (d : Vec ℕ Global) → n < length graph → targets_in graph n ≡ (get_or graph n d).items
targets_in-get_or [] n d below = absurd (omega arith)
targets_in-get_or (v ∷ graph) zero d below = refl
targets_in-get_or (v ∷ graph) (suc n) d below = targets_in-get_or graph n d (omega arith)

-- only a number of the graph leads anywhere
pub targets_in-within : (graph : Graph) (n m : ℕ) → Contains (targets_in graph n) m → n < length graph
targets_in-within [] n m (k, below, is) = absurd (omega arith)
targets_in-within (v ∷ graph) zero m among = omega arith
targets_in-within (v ∷ graph) (suc n) m among = omega (arith, targets_in-within graph n m among)

pub walk_along : (E F : ℕ → ℕ → Type 0) → ((n m : ℕ) → E n m → F n m) → (n m : ℕ) → Walk E n m → Walk F n m
walk_along E F f n m (one m' e) = one m' (f n m' e)
walk_along E F f n m (then k m' w e) = then k m' (walk_along E F f n k w) (f k m' e)

-- the same under other numbers
pub walk_under : (E F : ℕ → ℕ → Type 0) (g : ℕ → ℕ) → ((n m : ℕ) → E n m → F (g n) (g m)) → (n m : ℕ) → Walk E n m → Walk F (g n) (g m)
walk_under E F g f n m (one m' e) = one (g m') (f n m' e)
walk_under E F g f n m (then k m' w e) = then (g k) (g m') (walk_under E F g f n k w) (f k m' e)

-- one number further
pub falls_more : (graph : Graph) (ranks : List ℕ) (n : ℕ) → ((k m : ℕ) → k < n → Contains (targets_in graph k) m
    → slice_index ranks m < slice_index ranks k) → All (λ m. slice_index ranks m < slice_index ranks n) (targets_in graph n)
    → (k m : ℕ) → k < n + 1 → Contains (targets_in graph k) m → slice_index ranks m < slice_index ranks k
falls_more graph ranks n before here k m below among = elim (cases_eq k n) [
  | inl same ↦
      let P : ℕ → Type 0 = λ j. Contains (targets_in graph j) m in
      let Q : ℕ → Type 0 = λ j. slice_index ranks m < slice_index ranks j in
      subst Q (sym same) (All-contains (λ i. slice_index ranks i < slice_index ranks n) (targets_in graph n) m here (subst P same among))
  | inr other ↦ before k m (omega arith) among
]

walk_falls : (graph : Graph) (ranks : List ℕ) → Falls graph ranks → (n m : ℕ) → Walk (Leads (targets_in graph)) n m
    → slice_index ranks m < slice_index ranks n
walk_falls graph ranks h n m (one m' e) = h.falls n m' e
walk_falls graph ranks h n m (then k m' w e) = let last = h.falls k m' e in omega (arith, walk_falls graph ranks h n k w)

-- where ranks fall no walk closes
pub free_from_falls : (graph : Graph) (ranks : List ℕ) → Falls graph ranks → IsFree (OnCycle (Leads (targets_in graph)))
free_from_falls graph ranks h n w = omega (arith, walk_falls graph ranks h n n w)

pub walk_within : (graph : Graph) (n m : ℕ) → Walk (Leads (targets_in graph)) n m → n < length graph
walk_within graph n m (one m' e) = targets_in-within graph n m' e
walk_within graph n m (then k m' w e) = walk_within graph n k w

pub is_empty : (xs : List ℕ) → length xs ≡ 0 → xs ≡ []
is_empty [] h = refl
is_empty (x ∷ xs) h = absurd (omega arith)
