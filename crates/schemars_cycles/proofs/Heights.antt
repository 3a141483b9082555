-- Where no walk closes, the longest walks are bounded and fall along each edge.
use Rattle.std.proofs.Common.{◌≡◌, ◌<◌, ◌≤◌, ◌||◌, inl, inr, ℕ, zero, suc, max, List, [], ◌∷◌, Bool, true, false, length, Contains, refl, sym, ap, subst, arith, eqb}
use Rattle.schemars_cycles.proofs.Words.{cases_eq, eqb-true, IsDistinct, AllByRecursion, list_any, length-le_from_distinct_below, Walk, one, then, Leads, OnCycle, IsFree, largest, longest}
use Rattle.schemars_cycles.proofs.GraphLemmas.{Contains-later}

-- a fact of each number in a list
abbrev Each : (ℕ → Type 0) → List ℕ → Type 0
Each P [] = Unit {0}
Each P (x ∷ xs) = P x × Each P xs

each_map : (P Q : ℕ → Type 0) (xs : List ℕ) → ((x : ℕ) → P x → Q x) → Each P xs → Each Q xs
each_map P Q [] f h = tt
each_map P Q (x ∷ xs) f h = (f x h.0, each_map P Q xs f h.1)

each_all : (P : ℕ → Type 0) (xs : List ℕ) → ((x : ℕ) → P x) → Each P xs
each_all P [] f = tt
each_all P (x ∷ xs) f = (f x, each_all P xs f)

-- ---- the largest value over a list

largest-bound : (f : ℕ → ℕ) (xs : List ℕ) (b : ℕ) → Each (λ x. f x ≤ b) xs → largest f xs ≤ b
largest-bound f [] b h = omega arith
largest-bound f (x ∷ xs) b h = omega (arith, h.0, largest-bound f xs b h.1)

largest-ap : (f g : ℕ → ℕ) (xs : List ℕ) → Each (λ x. f x ≡ g x) xs → largest f xs ≡ largest g xs
largest-ap f g [] h = refl
largest-ap f g (x ∷ xs) h = λ i. max (h.0 i) (largest-ap f g xs h.1 i)

le-largest : (f : ℕ → ℕ) (xs : List ℕ) (m : ℕ) → Contains xs m → f m ≤ largest f xs
le-largest f [] m (k, below, is) = absurd (omega arith)
le-largest f (x ∷ xs) m (zero, below, is) = let same : f x ≡ f m = ap f is in omega arith
le-largest f (x ∷ xs) m (suc k, below, is) = omega (arith, le-largest f xs m (k, omega arith, is))

largest-reached : (f : ℕ → ℕ) (xs : List ℕ) → 0 < largest f xs → (m : ℕ) × Contains xs m × (f m ≡ largest f xs)
largest-reached f [] h = absurd (omega arith)
largest-reached f (x ∷ xs) h = elim (cases_eq (f x) (max (f x) (largest f xs)))
    [ inl e ↦ (x, (0, omega arith, refl), e) | inr other ↦ later other (largest-reached f xs (omega arith)) ]
  where
    later : (f x ≡ max (f x) (largest f xs) → ⊥) → (m : ℕ) × Contains xs m × (f m ≡ largest f xs)
        → (m : ℕ) × Contains (x ∷ xs) m × (f m ≡ max (f x) (largest f xs))
    later other (m, among, e) = (m, Contains-later x m xs among, omega arith)

-- ---- walks of a limited length

pub longest-bound : (targets : ℕ → List ℕ) (steps n : ℕ) → longest targets steps n ≤ steps
longest-bound targets zero n = omega arith
longest-bound targets (suc steps) n = largest-bound (λ m. suc (longest targets steps m)) (targets n) (suc steps)
    (each_all (λ m. suc (longest targets steps m) ≤ suc steps) (targets n) (λ m. omega (arith, longest-bound targets steps m)))

-- a longest walk below the limit stays so under a higher one
longest_stays : (targets : ℕ → List ℕ) (steps n : ℕ) → longest targets steps n < steps
    → longest targets (suc steps) n ≡ longest targets steps n
longest_stays targets zero n h = absurd (omega arith)
longest_stays targets (suc steps) n h = largest-ap (λ m. suc (longest targets (suc steps) m)) (λ m. suc (longest targets steps m))
    (targets n) (each (longest_stays targets steps) (targets n) h)
  where
    each : ((m : ℕ) → longest targets steps m < steps → longest targets (suc steps) m ≡ longest targets steps m) → (ms : List ℕ)
        → largest (λ m. suc (longest targets steps m)) ms < suc steps
        → Each (λ m. suc (longest targets (suc steps) m) ≡ suc (longest targets steps m)) ms
    each stays [] low = tt
    each stays (m ∷ ms) low = (ap suc (stays m (omega arith)), each stays ms (omega arith))

-- ---- a walk with its numbers

abbrev IsPath : (ℕ → List ℕ) → ℕ → List ℕ → Type 0
IsPath targets n [] = Unit {0}
IsPath targets n (m ∷ ms) = Contains (targets n) m × IsPath targets m ms

-- where the limit is met there is a walk of that length
path_at_limit : (targets : ℕ → List ℕ) (steps n : ℕ) → longest targets steps n ≡ steps
    → (xs : List ℕ) × (length xs ≡ steps) × IsPath targets n xs
path_at_limit targets zero n h = ([], refl, tt)
path_at_limit targets (suc steps) n h =
    let (m, among, e) = largest-reached (λ m. suc (longest targets steps m)) (targets n) (omega arith) in
    let (xs, count, path) = path_at_limit targets steps m (omega arith) in
    (m ∷ xs, ap suc {x = length xs} {y = steps} count, (among, path))

join : (targets : ℕ → List ℕ) (n m k : ℕ) → Leads targets n m → Walk (Leads targets) m k → Walk (Leads targets) n k
join targets n m k e (one k' f) = then m k' (one m e) f
join targets n m k e (then j k' w f) = then j k' (join targets n m j e w) f

walks : (targets : ℕ → List ℕ) (n : ℕ) (xs : List ℕ) → IsPath targets n xs → Each (Walk (Leads targets) n) xs
walks targets n [] path = tt
walks targets n (m ∷ ms) path = (
  one m path.0,
  each_map (Walk (Leads targets) m) (Walk (Leads targets) n) ms
      (λ k w. join targets n m k path.0 w) (walks targets m ms path.1),
)

apart : (targets : ℕ → List ℕ) (n : ℕ) (xs : List ℕ) → (OnCycle (Leads targets) n → ⊥) → Each (Walk (Leads targets) n) xs
    → AllByRecursion (λ y. eqb n y ≡ false) xs
apart targets n [] off h = tt
apart targets n (x ∷ xs) off h = (differ (eqb n x) refl, apart targets n xs off h.1)
  where
    differ : (b : Bool) → eqb n x ≡ b → b ≡ false
    differ true e = let P : ℕ → Type 0 = λ y. Walk (Leads targets) n y in absurd (off (subst P (sym (eqb-true n x e)) h.0))
    differ false e = refl

distinct : (targets : ℕ → List ℕ) (n : ℕ) (xs : List ℕ) → IsFree (OnCycle (Leads targets)) → IsPath targets n xs → IsDistinct eqb (n ∷ xs)
unfolding IsDistinct
distinct targets n [] free path = (tt, tt)
distinct targets n (m ∷ ms) free path = (
  apart targets n (m ∷ ms) (free n) (walks targets n (m ∷ ms) path),
  distinct targets m ms free path.1,
)

-- the edges lie among the numbers below `len`
pub record IsWithin (targets : ℕ → List ℕ) (len : ℕ) : Type 0 where
  pub within : (n m : ℕ) → Contains (targets n) m → (n < len) × (m < len)

path_within : (targets : ℕ → List ℕ) (len n : ℕ) (xs : List ℕ) → IsWithin targets len → IsPath targets n xs → n < len → (q : ℕ)
    → list_any (eqb q) (n ∷ xs) ≡ true → q < len
path_within targets len n xs known path below q h = here (eqb q n) refl h
  where
    later : (n : ℕ) (xs : List ℕ) → IsPath targets n xs → (b : Bool) → eqb q n ≡ b → n < len → b || list_any (eqb q) xs ≡ true → q < len
    later n xs path true e low t = let same = eqb-true q n e in omega arith
    later n [] path false e low t = cc
    later n (m ∷ ms) path false e low t = later m ms path.1 (eqb q m) refl (known.within n m path.0).1 t

    here : (b : Bool) → eqb q n ≡ b → b || list_any (eqb q) xs ≡ true → q < len
    here b e t = later n xs path b e below t

-- a walk that never closes meets each number once at most
pub longest-below : (targets : ℕ → List ℕ) (len n : ℕ) → IsWithin targets len → IsFree (OnCycle (Leads targets)) → n < len
    → longest targets len n < len
longest-below targets len n known free below = elim (cases_eq (longest targets len n) len)
    [ inl full ↦ absurd (too_long full) | inr short ↦ let bound = longest-bound targets len n in omega arith ]
  where
    too_long : longest targets len n ≡ len → ⊥
    too_long full =
        let (xs, count, path) = path_at_limit targets len n full in
        let few = length-le_from_distinct_below (n ∷ xs) len (distinct targets n xs free path)
        (path_within targets len n xs known path below) in
        omega arith

pub longest_falls : (targets : ℕ → List ℕ) (len n m : ℕ) → IsWithin targets len → IsFree (OnCycle (Leads targets))
    → Contains (targets n) m → longest targets len m < longest targets len n
longest_falls targets len n m known free e =
    let ends = known.within n m e in
    let stays = longest_stays targets len n (longest-below targets len n known free ends.0) in
    let reached = le-largest (λ k. suc (longest targets len k)) (targets n) m e in
    omega arith
