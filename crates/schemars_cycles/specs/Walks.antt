-- Walks along the edges of a graph, and how far they go where they never close.
use Rattle.std.specs.Prelude.{◌<◌, ℕ, zero, suc, max, List, [], ◌∷◌, Contains}

-- an edge, or a walk and an edge from its end
pub data Walk (Edge : ℕ → ℕ → Type 0) (n : ℕ) : ℕ → Type 0 where
  one : (m : ℕ) → Edge n m → Walk Edge n m
  then : (k m : ℕ) → Walk Edge n k → Edge k m → Walk Edge n m

-- a graph by the targets of each number
abbrev pub Leads : (ℕ → List ℕ) → ℕ → ℕ → Type 0
Leads targets n m = Contains (targets n) m

-- n is on a closed walk
abbrev pub OnCycle : (ℕ → ℕ → Type 0) → ℕ → Type 0
OnCycle Edge n = Walk Edge n n

-- no number is one
abbrev pub IsFree : (ℕ → Type 0) → Type 0
IsFree Fault = (n : ℕ) → ¬ Fault n

-- n is the first
abbrev pub IsLeast : (ℕ → Type 0) → ℕ → Type 0
IsLeast Fault n = Fault n × ((k : ℕ) → k < n → ¬ Fault k)

abbrev pub largest : (ℕ → ℕ) → List ℕ → ℕ
largest f [] = 0
largest f (m ∷ ms) = max (f m) (largest f ms)

-- the number of edges of the longest walk from n, or `steps` where one is longer
abbrev pub longest : (ℕ → List ℕ) → ℕ → ℕ → ℕ
longest targets zero n = 0
longest targets (suc steps) n = largest (λ m. suc (longest targets steps m)) (targets n)
