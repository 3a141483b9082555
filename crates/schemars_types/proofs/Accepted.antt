-- What a table without faults offers, and what each answer of the search says of the faults.
use Rattle.std.proofs.Common.{◌≡◌, ◌<◌, inl, inr, ℕ, List, Option, Some, None, IsSome, length, Contains, MatchOption, refl}
use Rattle.schemars_types.proofs.Words.{lt-ltb, ltb-true, Text, AreDistinctLists, IsFirstRepeated, Leads, OnCycle, IsFree, IsLeast, targets_along, Row, entry_at, RefersWithin, DirectEdge, SameValueEdge, direct_targets, same_value_targets, is_row, same_value_numbers_at, height, rank, names_at, IsUndefined, HasRepeated, OnDirectCycle, OnEmptyCycle, IsAccepted, IsChecked, walk_along, IsWithin, longest-bound, longest-below, longest_falls}
use Rattle.schemars_types.specs.declared.check.faults.EdgeKind.TheVariants.{Direct, SameValue}
use Rattle.schemars_types.proofs.EdgeLemmas.{Contains-filter, Contains-filtered, to_direct, from_direct, ends_within}
use Rattle.schemars_types.proofs.Names.{lists_differ_or_repeated}
pub use Rattle.schemars_types.proofs.Names.{never_first_repeated}

-- ---- names

names_differ : (rows : List Row) → IsFree (HasRepeated rows) → (n : ℕ) → AreDistinctLists (names_at rows n)
names_differ rows free n = elim (lists_differ_or_repeated (names_at rows n)) [ inl differ ↦ differ | inr r ↦ absurd (free n r) ]

pub none_repeated : (rows : List Row) → ((n : ℕ) → AreDistinctLists (names_at rows n)) → IsFree (HasRepeated rows)
none_repeated rows differ n (name, r) = never_first_repeated (names_at rows n) name (differ n) r

pub least_repeated : (rows : List Row) (n : ℕ) (name : Text) → ((k : ℕ) → k < n → AreDistinctLists (names_at rows k))
    → IsFirstRepeated (names_at rows n) name → IsLeast (HasRepeated rows) n
least_repeated rows n name differ r = ((name, r), λ k below (other, s). never_first_repeated (names_at rows k) other (differ k below) s)

-- ---- edges

pub to_same_value : (rows : List Row) (n m : ℕ) → Contains (targets_along SameValue rows n) m → SameValueEdge rows n m
to_same_value rows n m among = let (c, t) = Contains-filter (is_row rows) (same_value_numbers_at rows n) m among in
    (c, ltb-true m (length rows) t)

from_same_value : (rows : List Row) (n m : ℕ) → SameValueEdge rows n m → Contains (targets_along SameValue rows n) m
from_same_value rows n m e = Contains-filtered (is_row rows) (same_value_numbers_at rows n) m e.0
    (lt-ltb m (length rows) e.1)

-- closed walks along two sets of edges, where each edge of one is an edge of the other
alike : (E F : ℕ → ℕ → Type 0) → ((n m : ℕ) → E n m → F n m) → ((n m : ℕ) → F n m → E n m) → (r : Option ℕ)
    → MatchOption r (IsFree (OnCycle E)) (IsLeast (OnCycle E)) → MatchOption r (IsFree (OnCycle F)) (IsLeast (OnCycle F))
alike E F to from None free = λ n w. free n (walk_along F E from n n w)
alike E F to from (Some n) least = (walk_along E F to n n least.0, λ k below w. least.1 k below (walk_along F E from k k w))

pub direct_cycles : (rows : List Row) (r : Option ℕ) → MatchOption r (IsFree (OnCycle (Leads (targets_along Direct rows))))
    (IsLeast (OnCycle (Leads (targets_along Direct rows)))) → MatchOption r (IsFree (OnDirectCycle rows)) (IsLeast (OnDirectCycle rows))
direct_cycles rows = alike (Leads (targets_along Direct rows)) (DirectEdge rows) (to_direct rows) (from_direct rows)

pub empty_cycles : (rows : List Row) (r : Option ℕ) → MatchOption r (IsFree (OnCycle (Leads (targets_along SameValue rows))))
    (IsLeast (OnCycle (Leads (targets_along SameValue rows)))) → MatchOption r (IsFree (OnEmptyCycle rows)) (IsLeast (OnEmptyCycle rows))
empty_cycles rows = alike (Leads (targets_along SameValue rows)) (SameValueEdge rows) (to_same_value rows) (from_same_value rows)

-- ---- the whole

is_defined : (rows : List Row) → IsFree (IsUndefined rows) → (n : ℕ) → n < length rows → IsSome (entry_at rows n)
is_defined rows free n below = by (entry_at rows n) refl
  where
    by : (o : Option _) → entry_at rows n ≡ o → IsSome o
    by None e = absurd (free n (below, e))
    by (Some e) is = refl

pub checked : (rows : List Row) → RefersWithin rows → IsAccepted rows → IsChecked rows
unfolding direct_targets same_value_targets height rank
checked rows within a =
    let len = length rows in
    let direct = targets_along Direct rows in
    let same_value = targets_along SameValue rows in
    let direct_within : IsWithin direct len = record { within = ends_within Direct rows } in
    let same_value_within : IsWithin same_value len = record { within = ends_within SameValue rows } in
    let direct_free : IsFree (OnCycle (Leads direct)) = λ n w. a.direct n
    (walk_along (Leads direct) (DirectEdge rows) (to_direct rows) n n w) in
    let same_value_free : IsFree (OnCycle (Leads same_value)) = λ n w.
    a.empty n (walk_along (Leads same_value) (SameValueEdge rows) (to_same_value rows) n n w) in
    record {
      within = within;
      defined = is_defined rows a.defined;
      names_differ = names_differ rows a.named;
      height_bound = λ n. longest-bound direct len n;
      height_falls = λ n m e. longest_falls direct len n m direct_within direct_free (from_direct rows n m e);
      rank_bound = λ n below. longest-below same_value len n same_value_within same_value_free below;
      rank_falls = λ n m e. longest_falls same_value len n m same_value_within same_value_free (from_same_value rows n m e);
    }
