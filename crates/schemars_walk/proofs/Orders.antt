-- A list of transforms, member by member.
use Rattle.std.proofs.Common.{◌≡◌, ℕ, zero, suc, ◌+◌, ◌<◌, ◌≤◌, List, [], ◌∷◌, ◌++◌, length, get_or, take, drop, set, Ok, Err, refl, sym, ap, subst, add-one, arith}
use Rattle.schemars_walk.proofs.Words.{Data, Answer, TransformStep, InOrder}
use Rattle.schemars_walk.specs.declared.transform.TransformError.{TransformError}

-- the place behind the members that are done
pub member_from : {S : Type 0} (ts : List S) (i : ℕ) (u d : S) → i < length ts
    → drop i ts ≡ get_or ts i d ∷ drop (suc i) (set ts i u)
member_from [] i u d h = absurd (omega arith)
member_from (t ∷ ts) zero u d h = refl
member_from (t ∷ ts) (suc i) u d h = member_from ts i u d (omega arith)

pub member_done : {S : Type 0} (ts : List S) (i : ℕ) (u : S) (us : List S) → i < length ts
    → take (suc i) (set ts i u) ++ us ≡ take i ts ++ u ∷ us
member_done [] i u us h = absurd (omega arith)
member_done (t ∷ ts) zero u us h = refl
member_done (t ∷ ts) (suc i) u us h = ap (λ xs. t ∷ xs) (member_done ts i u us (omega arith))

-- the others stay
pub members_around : {S : Type 0} (ts : List S) (i : ℕ) (u : S) → i < length ts
    → take i ts ++ u ∷ drop (suc i) (set ts i u) ≡ set ts i u
members_around [] i u h = absurd (omega arith)
members_around (t ∷ ts) zero u h = refl
members_around (t ∷ ts) (suc i) u h = ap (λ xs. t ∷ xs) (members_around ts i u (omega arith))

none_behind : {S : Type 0} (ts : List S) (i : ℕ) → length ts ≤ i → drop i ts ≡ []
none_behind [] zero h = refl
none_behind [] (suc i) h = refl
none_behind (t ∷ ts) zero h = absurd (omega arith)
none_behind (t ∷ ts) (suc i) h = none_behind ts i (omega arith)

all_before : {S : Type 0} (ts : List S) (i : ℕ) → length ts ≤ i → take i ts ++ [] ≡ ts
all_before [] zero h = refl
all_before [] (suc i) h = refl
all_before (t ∷ ts) zero h = absurd (omega arith)
all_before (t ∷ ts) (suc i) h = ap (λ xs. t ∷ xs) (all_before ts i (omega arith))

module _ {S : Type 0} (Q : TransformStep S) where
  from_the_first : (all ts : List S) (d : Data) → ts ≡ all → (r : Answer) (us : List S) (v : Data)
      → InOrder Q ts d r us v → InOrder Q all d r us v
  from_the_first all ts d same r us v h = subst (λ xs. InOrder Q xs d r us v) same h

  pub order_begins : (all ts : List S) (d : Data) → ts ≡ all → (r : Answer) (us : List S) (v : Data)
      → InOrder Q (drop 0 ts) d r us v → InOrder Q all d r (take 0 ts ++ us) v
  order_begins all [] d same r us v h = from_the_first all [] d same r us v h
  order_begins all (t ∷ ts) d same r us v h = from_the_first all (t ∷ ts) d same r us v h

-- one turn of a loop over members, each written over in its place
module _ {S : Type 0} (Q : TransformStep S) (all : List S) (first : Data) (ts : List S) (i : ℕ) (s : Data)
    (goes : (r : Answer) (us : List S) (v : Data) → InOrder Q (drop i ts) s r us v
    → InOrder Q all first r (take i ts ++ us) v) where
  pub order_goes_on : (d u : S) (e : Data) → i < length ts → Q (get_or ts i d) s (Ok tt) u e
      → (r : Answer) (us : List S) (v : Data) → InOrder Q (drop (i + 1) (set ts i u)) e r us v
      → InOrder Q all first r (take (i + 1) (set ts i u) ++ us) v
  order_goes_on d u e within call r us v h =
      let here : InOrder Q (drop i ts) s r (u ∷ us) v =
      subst (λ xs. InOrder Q xs s r (u ∷ us) v) (sym (member_from ts i u d within))
      (Ok tt, u, e, call, (us, rw add-one at h, refl)) in
      rw add-one (subst (λ xs. InOrder Q all first r xs v) (sym (member_done ts i u us within))
      (goes r (u ∷ us) v here))

  pub order_stops : (d u : S) (e : Data) (x : TransformError) → i < length ts → Q (get_or ts i d) s (Err x) u e
      → InOrder Q all first (Err x) (set ts i u) e
  order_stops d u e x within call =
      let behind : List S = drop (suc i) (set ts i u) in
      let here : InOrder Q (drop i ts) s (Err x) (u ∷ behind) e =
      subst (λ xs. InOrder Q xs s (Err x) (u ∷ behind) e) (sym (member_from ts i u d within))
      (Err x, u, e, call, (refl, refl)) in
      subst (λ xs. InOrder Q all first (Err x) xs e) (members_around ts i u within) (goes (Err x) (u ∷ behind) e here)

  pub order_ends : length ts ≤ i → InOrder Q all first (Ok tt) ts s
  order_ends end =
      let here : InOrder Q (drop i ts) s (Ok tt) [] s =
      subst (λ xs. InOrder Q xs s (Ok tt) [] s) (sym (none_behind ts i end)) (refl, refl, refl) in
      subst (λ xs. InOrder Q all first (Ok tt) xs s) (all_before ts i end) (goes (Ok tt) [] s here)
