-- The numbers of several parts, one after another.
use Rattle.std.proofs.Common.{◌≡◌, ℕ, List, [], ◌∷◌, ◌++◌, Bool, true, false, Option, Some, None, cond, length, find, nat_le, option_map, option_and_then, refl, ap, sym, ◌∙◌, subst, append_assoc, append-nil}
use Rattle.schemars_impls.proofs.Words.{Text, Row, place_of, places_of, Adds, Keeps}
use Rattle.schemars_impls.proofs.Keeping.{keeps-refl, keeps-trans, place_of-kept, numbers-kept, known-one}

pub places_of-kept : (ids : List Text) (ns : List ℕ) (old new : List Row) → Keeps old new → places_of ids old ≡ Some ns
    → places_of ids new ≡ Some ns
places_of-kept [] ns old new h is = is
places_of-kept (id ∷ ids) ns old new h is = by (place_of id old) (places_of ids old) refl refl is (λ ms. places_of-kept ids ms old new h)
  where
    both : (n : ℕ) (ms : List ℕ) → place_of id new ≡ Some n → places_of ids new ≡ Some ms → Some (n ∷ ms) ≡ Some ns
        → places_of (id ∷ ids) new ≡ Some ns
    both n ms p q e = rw (p, q) e

    by : (o : Option ℕ) (os : Option (List ℕ)) → place_of id old ≡ o → places_of ids old ≡ os
        → option_and_then (λ n. option_map (λ ms. n ∷ ms) os) o ≡ Some ns
        → ((ms : List ℕ) → places_of ids old ≡ Some ms → places_of ids new ≡ Some ms) → places_of (id ∷ ids) new ≡ Some ns
    by None os p q e later = cc
    by (Some n) None p q e later = cc
    by (Some n) (Some ms) p q e later = both n ms (place_of-kept id n h p) (later ms q) e

pub place_added : (id : Text) (old new : List Row) (before after : List ℕ) (n : ℕ) → Keeps old new → place_of id new ≡ Some n
    → after ≡ before ++ n ∷ [] → Adds (id ∷ []) old before new after
place_added id old new before after n h there is = record { kept = h; numbers = n ∷ []; placed = rw there refl; after_is = is }

pub adds_none : (rows : List Row) (p : List ℕ) → Adds [] rows p rows p
adds_none rows p = record { kept = keeps-refl rows; numbers = []; placed = refl; after_is = sym (append-nil p) }

pub adds_then : {id : Text} {ids : List Text} {a b c : List Row} {p q r : List ℕ} → Adds (id ∷ []) a p b q → Adds ids b q c r
    → Adds (id ∷ ids) a p c r
adds_then {id = id} {ids = ids} {a = a} {b = b} {c = c} {p = p} {q = q} {r = r} first rest =
    let one = places_of-kept (id ∷ []) first.numbers b c rest.kept first.placed in
    record {
      kept = keeps-trans first.kept rest.kept;
      numbers = first.numbers ++ rest.numbers;
      placed = by (place_of id c) one;
      after_is = rest.after_is ∙ ap (λ t. t ++ rest.numbers) first.after_is ∙ append_assoc p first.numbers rest.numbers;
    }
  where
    by : (o : Option ℕ) → option_and_then (λ n. option_map (λ ms. n ∷ ms) (Some [])) o ≡ Some first.numbers
        → option_and_then (λ n. option_map (λ ms. n ∷ ms) (places_of ids c)) o ≡ Some (first.numbers ++ rest.numbers)
    by None is = cc
    by (Some n) is = let one_is : n ∷ [] ≡ first.numbers = cc in rw rest.placed (ap (λ t. Some (t ++ rest.numbers)) one_is)

pub adds_placed : {ids : List Text} {a c : List Row} {r : List ℕ} → Adds ids a [] c r → places_of ids c ≡ Some r
adds_placed h = h.placed ∙ ap Some (sym h.after_is)

-- numbers of rows, and that of one more
pub known_more : (id : Text) (old new : List Row) (before after : List ℕ) (n : ℕ) → Keeps old new → place_of id new ≡ Some n
    → after ≡ before ++ n ∷ [] → find (λ m. nat_le (length old) m) before ≡ None → find (λ m. nat_le (length new) m) after ≡ None
known_more id old new before after n h there is known =
    subst (λ t. find (λ m. nat_le (length new) m) t ≡ None) (sym is) (joined before (numbers-kept old new before h known))
  where
    joined : (ms : List ℕ) → find (λ m. nat_le (length new) m) ms ≡ None → find (λ m. nat_le (length new) m) (ms ++ n ∷ []) ≡ None
    joined [] h = known-one id new n there
    joined (m ∷ ms) h = by (nat_le (length new) m) h (joined ms)
      where
        by : (b : Bool) → cond b (Some m) (find (λ k. nat_le (length new) k) ms) ≡ None
            → (find (λ k. nat_le (length new) k) ms ≡ None → find (λ k. nat_le (length new) k) (ms ++ n ∷ []) ≡ None)
            → cond b (Some m) (find (λ k. nat_le (length new) k) (ms ++ n ∷ [])) ≡ None
        by true e rest = cc
        by false e rest = rest e
