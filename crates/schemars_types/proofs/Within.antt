-- Every number in an entry stays a row's as rows join and are defined.
use Rattle.std.proofs.Common.{◌≡◌, ◌<◌, ◌≤◌, ◌⊎◌, inl, inr, ℕ, zero, suc, List, [], ◌∷◌, ◌++◌, Bool, true, false, Some, None, cond, length, find, nat_le, is_some, Contains, refl, ap, arith, if◌then◌else◌}
use Rattle.schemars_types.proofs.Words.{leb-false, Text, Entry, numbers_of, Row, place_of, unknown_in, reserved, defined, numbers_at, RefersWithin}
use Rattle.schemars_cycles.proofs.GraphLemmas.{nothing_among}

-- ---- a row joins

pub length-joined : (rows : List Row) (r : Row) → length rows ≤ length (rows ++ r ∷ [])
length-joined [] r = omega arith
length-joined (q ∷ rows) r = omega (arith, length-joined rows r)

numbers_at-joined : (rows : List Row) (id name : Text) (n m : ℕ) → Contains
    (numbers_at (rows ++ (record { id = id; name = name; entry = None }) ∷ []) n) m → Contains (numbers_at rows n) m
numbers_at-joined [] id name zero m among = among
numbers_at-joined [] id name (suc n) m among = among
numbers_at-joined (q ∷ rows) id name zero m among = among
numbers_at-joined (q ∷ rows) id name (suc n) m among = numbers_at-joined rows id name n m among

pub within_reserved : (rows : List Row) (id name : Text) → RefersWithin rows → RefersWithin (reserved id name rows)
within_reserved rows id name h = by (is_some (place_of id rows)) refl
  where
    by : (b : Bool) → is_some (place_of id rows) ≡ b → RefersWithin (if b then rows else
        rows ++ (record { id = id; name = name; entry = None }) ∷ [])
    by true e = h
    by false e = record {
      within = λ n m among. let below = h.within n m (numbers_at-joined rows id name n m among) in
          omega (arith, length-joined rows (record { id = id; name = name; entry = None }));
    }

-- ---- a row is defined

pub length-defined : (n : ℕ) (e : Entry) (rows : List Row) → length (defined n e rows) ≡ length rows
length-defined n e [] = refl
length-defined zero e (r ∷ rows) = refl
length-defined (suc n) e (r ∷ rows) = ap suc (length-defined n e rows)

numbers_at-defined : (n : ℕ) (e : Entry) (rows : List Row) (k m : ℕ) → Contains (numbers_at (defined n e rows) k) m
    → Contains (numbers_of e.shape) m ⊎ Contains (numbers_at rows k) m
numbers_at-defined n e [] k m among = inr among
numbers_at-defined zero e (r ∷ rows) zero m among = inl among
numbers_at-defined zero e (r ∷ rows) (suc k) m among = inr among
numbers_at-defined (suc n) e (r ∷ rows) zero m among = inr among
numbers_at-defined (suc n) e (r ∷ rows) (suc k) m among = numbers_at-defined n e rows k m among

all_known : (len : ℕ) (ns : List ℕ) (m : ℕ) → find (λ n. nat_le len n) ns ≡ None → Contains ns m → m < len
all_known len [] m none among = absurd (nothing_among m among)
all_known len (n ∷ ns) m none among = by (nat_le len n) refl none among (all_known len ns m)
  where
    by : (b : Bool) → nat_le len n ≡ b → cond b (Some n) (find (λ i. nat_le len i) ns) ≡ None → Contains (n ∷ ns) m
        → (find (λ i. nat_le len i) ns ≡ None → Contains ns m → m < len) → m < len
    by true e h among rest = cc
    by false e h (zero, below, is) rest = let lower = leb-false len n e in omega arith
    by false e h (suc k, below, is) rest = rest h (k, omega arith, is)

pub within_defined : (n : ℕ) (e : Entry) (rows : List Row) → unknown_in rows e.shape ≡ None → RefersWithin rows
    → RefersWithin (defined n e rows)
within_defined n e rows known h = record {
  within = λ k m among. elim (numbers_at-defined n e rows k m among) [
    | inl new ↦ omega (arith, all_known (length rows) (numbers_of e.shape) m known new, length-defined n e rows)
    | inr old ↦ omega (arith, h.within k m old, length-defined n e rows)
  ];
}
