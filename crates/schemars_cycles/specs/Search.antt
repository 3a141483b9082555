-- Graphs as the program holds them, and sets of numbers that a search has met.
use Rattle.std.specs.Prelude.{◌≡◌, ◌<◌, ◌≤◌, ◌+◌, ◌⊎◌, ℕ, suc, List, [], ◌∷◌, length, Contains, slice_get, slice_index, Bool, true, false, Some, Vec}
use Rattle.std.specs.declared.alloc.Global.{Global}
use Rattle.std.specs.Option.{option_map_or}
use Rattle.schemars_cycles.specs.Walks.{Walk, Leads}

abbrev pub Graph : Type 0
Graph = List (Vec ℕ Global)

-- the targets of n, and none past the end
abbrev pub targets_in : Graph → ℕ → List ℕ
targets_in graph n = option_map_or (λ v. v.items) (slice_get graph n) []

-- each edge leads to a number of the graph
pub record IsClosed (graph : Graph) : Type 0 where
  pub within : (n m : ℕ) → Contains (targets_in graph n) m → m < length graph

-- ranks fall along each edge
pub record Falls (graph : Graph) (ranks : List ℕ) : Type 0 where
  pub falls : (n m : ℕ) → Contains (targets_in graph n) m → slice_index ranks m < slice_index ranks n

pub record IsMet (met : List Bool) (n : ℕ) : Type 0 where
  pub at : slice_get met n ≡ Some true

-- how many have not been met
abbrev pub unmet : List Bool → ℕ
unmet [] = 0
unmet (true ∷ met) = unmet met
unmet (false ∷ met) = suc (unmet met)

-- the state of a search: the numbers that it has visited, and those of them from which it still has to go on
pub record Front : Type 0 where
  pub met : List Bool
  pub waiting : List ℕ

-- these numbers are met now, and those that were not before wait
pub record Meets (numbers : List ℕ) (old new : Front) : Type 0 where
  pub same_length : length new.met ≡ length old.met
  pub fewer : unmet new.met ≤ unmet old.met
  pub each_waits : unmet new.met + length new.waiting ≡ unmet old.met + length old.waiting
  pub all : (m : ℕ) → Contains numbers m → IsMet new.met m
  pub kept : (m : ℕ) → IsMet old.met m → IsMet new.met m
  pub still_waits : (m : ℕ) → Contains old.waiting m → Contains new.waiting m
  pub met_from : (m : ℕ) → IsMet new.met m → IsMet old.met m ⊎ (Contains numbers m × Contains new.waiting m)
  pub waits_from : (m : ℕ) → Contains new.waiting m → Contains old.waiting m ⊎ IsMet new.met m

abbrev pub front_of : List Bool → List ℕ → Front
front_of met waiting = record { met = met; waiting = waiting }

-- the numbers at the ends of walks from a number
pub record AreVisited (graph : Graph) (from : ℕ) (met : List Bool) : Type 0 where
  pub sound : (m : ℕ) → IsMet met m → Walk (Leads (targets_in graph)) from m
  pub complete : (m : ℕ) → Walk (Leads (targets_in graph)) from m → IsMet met m
