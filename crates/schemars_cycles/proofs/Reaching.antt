-- What a search meets, one number after another.
use Rattle.std.proofs.Common.{◌≡◌, ◌<◌, ◌+◌, ◌⊎◌, inl, inr, ℕ, zero, suc, List, [], ◌∷◌, ◌++◌, Bool, true, false, Some, length, get_or, Contains, refl, sym, ap, ◌∙◌, subst, arith, length-set, length-append, replicate, slice_get}
use Rattle.schemars_cycles.proofs.Words.{set, Contains-append_left, Contains-append_right, Contains-append_cases, Contains-push, Contains-push_cases, Walk, one, then, Leads, Graph, targets_in, IsMet, unmet, Front, front_of, Meets, AreVisited}
use Rattle.schemars_cycles.proofs.GraphLemmas.{nothing_among}

unmet-set : (met : List Bool) (m : ℕ) (d : Bool) → m < length met → get_or met m d ≡ false → unmet (set met m true) + 1 ≡ unmet met
unmet-set [] m d below new = absurd (omega arith)
unmet-set (true ∷ met) zero d below new = cc
unmet-set (false ∷ met) zero d below new = omega arith
unmet-set (true ∷ met) (suc m) d below new = unmet-set met m d (omega arith) new
unmet-set (false ∷ met) (suc m) d below new = omega (arith, unmet-set met m d (omega arith) new)

met-set_same : (met : List Bool) (m : ℕ) → m < length met → slice_get (set met m true) m ≡ Some true
met-set_same [] m below = absurd (omega arith)
met-set_same (x ∷ met) zero below = refl
met-set_same (x ∷ met) (suc m) below = met-set_same met m (omega arith)

met-set_kept : (met : List Bool) (m k : ℕ) → slice_get met k ≡ Some true → slice_get (set met m true) k ≡ Some true
met-set_kept [] m k h = h
met-set_kept (x ∷ met) zero zero h = refl
met-set_kept (x ∷ met) zero (suc k) h = h
met-set_kept (x ∷ met) (suc m) zero h = h
met-set_kept (x ∷ met) (suc m) (suc k) h = met-set_kept met m k h

met-set_cases : (met : List Bool) (m k : ℕ) → slice_get (set met m true) k ≡ Some true → (slice_get met k ≡ Some true) ⊎ (m ≡ k)
met-set_cases [] m k h = inl h
met-set_cases (x ∷ met) zero zero h = inr refl
met-set_cases (x ∷ met) zero (suc k) h = inl h
met-set_cases (x ∷ met) (suc m) zero h = inl h
met-set_cases (x ∷ met) (suc m) (suc k) h = elim (met-set_cases met m k h) [ inl before ↦ inl before | inr same ↦ inr (ap suc same) ]

alone : (m k : ℕ) → m ≡ k → Contains (m ∷ []) k
alone m k same = (0, omega arith, same)

is_alone : (m k : ℕ) → Contains (m ∷ []) k → m ≡ k
is_alone m k (zero, below, is) = is
is_alone m k (suc i, below, is) = absurd (omega arith)

pub meets_new : (met : List Bool) (waiting : List ℕ) (m : ℕ) (d : Bool) → m < length met → get_or met m d ≡ false
    → Meets (m ∷ []) (front_of met waiting) (front_of (set met m true) (waiting ++ m ∷ []))
meets_new met waiting m d below new = record {
  same_length = length-set met m true;
  fewer = omega (arith, unmet-set met m d below new);
  each_waits = omega (arith, unmet-set met m d below new, length-append waiting (m ∷ []));
  all = λ k among. let P : ℕ → Type 0 = λ j. IsMet (set met m true) j in
      subst P (is_alone m k among) (record { at = met-set_same met m below });
  kept = λ k h. record { at = met-set_kept met m k h.at };
  still_waits = λ k h. Contains-append_left waiting (m ∷ []) k h;
  met_from = λ k h. elim (met-set_cases met m k h.at) [
    | inl before ↦ inl (record { at = before })
    | inr same ↦ inr
        (alone m k same, Contains-append_right waiting (m ∷ []) k (alone m k same))
  ];
  waits_from = λ k h. elim (Contains-push_cases waiting m k h) [
    | inl before ↦ inl before
    | inr same ↦ inr
        (let P : ℕ → Type 0 = λ j. IsMet (set met m true) j in subst P same (record { at = met-set_same met m below }))
  ];
}

pub meets_met : (f : Front) (m : ℕ) → IsMet f.met m → Meets (m ∷ []) f f
meets_met f m h = record {
  same_length = refl;
  fewer = omega arith;
  each_waits = refl;
  all = λ k among. let P : ℕ → Type 0 = λ j. IsMet f.met j in subst P (is_alone m k among) h;
  kept = λ k g. g;
  still_waits = λ k g. g;
  met_from = λ k g. inl g;
  waits_from = λ k g. inl g;
}

pub meets_none : (f : Front) → Meets [] f f
meets_none f = record {
  same_length = refl;
  fewer = omega arith;
  each_waits = refl;
  all = λ k (i, below, is). absurd (omega arith);
  kept = λ k g. g;
  still_waits = λ k g. g;
  met_from = λ k g. inl g;
  waits_from = λ k g. inl g;
}

pub meets_then : (ms ns : List ℕ) (f g h : Front) → Meets ms f g → Meets ns g h → Meets (ms ++ ns) f h
meets_then ms ns f g h p q = record {
  same_length = q.same_length ∙ p.same_length;
  fewer = omega (arith, p.fewer, q.fewer);
  each_waits = q.each_waits ∙ p.each_waits;
  all = λ k among. elim (Contains-append_cases ms ns k among) [ inl first ↦ q.kept k (p.all k first) | inr second ↦ q.all k second ];
  kept = λ k m. q.kept k (p.kept k m);
  still_waits = λ k w. q.still_waits k (p.still_waits k w);
  met_from = λ k m. elim (q.met_from k m) [
    | inl between ↦ elim (p.met_from k between) [
      | inl before ↦ inl before
      | inr (among, waits) ↦ inr
          (Contains-append_left ms ns k among, q.still_waits k waits)
    ]
    | inr (among, waits) ↦ inr (Contains-append_right ms ns k among, waits)
  ];
  waits_from = λ k w. elim (q.waits_from k w) [
    | inl between ↦ elim (p.waits_from k between)
        [ inl before ↦ inl before | inr m ↦ inr (q.kept k m) ]
    | inr m ↦ inr m
  ];
}

-- ---- the whole search

-- what holds between two steps: each number that was met is reached, and waits or has its targets met
pub record IsUnderWay (graph : Graph) (from : ℕ) (f : Front) : Type 0 where
  pub same_length : length f.met ≡ length graph
  pub sound : (m : ℕ) → IsMet f.met m → Walk (Leads (targets_in graph)) from m
  pub first : (m : ℕ) → Contains (targets_in graph from) m → IsMet f.met m
  pub waits_met : (m : ℕ) → Contains f.waiting m → IsMet f.met m
  pub gone_on : (n : ℕ) → IsMet f.met n → Contains f.waiting n ⊎ ((m : ℕ) → Contains (targets_in graph n) m → IsMet f.met m)

met-none : (k m : ℕ) → slice_get (replicate k false) m ≡ Some true → ⊥
met-none zero m h = cc
met-none (suc k) zero h = cc
met-none (suc k) (suc m) h = met-none k m h

pub under_way_first : (graph : Graph) (from : ℕ) (f g : Front) → f.met ≡ replicate (length graph) false → f.waiting ≡ []
    → length f.met ≡ length graph → Meets (targets_in graph from) f g → IsUnderWay graph from g
under_way_first graph from f g fresh empty len p = record {
  same_length = p.same_length ∙ len;
  sound = λ m h. one m (among m (p.met_from m h)).0;
  first = p.all;
  waits_met = λ m h. waits m (p.waits_from m h);
  gone_on = λ n h. inl (among n (p.met_from n h)).1;
}
  where
    unmet_before : (m : ℕ) → IsMet f.met m → ⊥
    unmet_before m h = met-none (length graph) m (subst (λ (xs : List Bool). slice_get xs m ≡ Some true) fresh h.at)

    among : (m : ℕ) → IsMet f.met m ⊎ (Contains (targets_in graph from) m × Contains g.waiting m)
        → Contains (targets_in graph from) m × Contains g.waiting m
    among m (inl before) = absurd (unmet_before m before)
    among m (inr now) = now

    waits : (m : ℕ) → Contains f.waiting m ⊎ IsMet g.met m → IsMet g.met m
    waits m (inl before) = absurd (nothing_among m (subst (λ (xs : List ℕ). Contains xs m) empty before))
    waits m (inr now) = now

pub under_way_next : (graph : Graph) (from n : ℕ) (e f g : Front) → IsUnderWay graph from e → e.waiting ≡ f.waiting ++ n ∷ []
    → e.met ≡ f.met → Meets (targets_in graph n) f g → IsUnderWay graph from g
under_way_next graph from n e f g h popped same p = record {
  same_length = p.same_length ∙ ap length (sym same) ∙ h.same_length;
  sound = λ m is. sound m (p.met_from m is);
  first = λ m among. kept m (h.first m among);
  waits_met = λ m is. waits m (p.waits_from m is);
  gone_on = λ k is. gone k (p.met_from k is);
}
  where
    kept : (m : ℕ) → IsMet e.met m → IsMet g.met m
    kept m is = p.kept m (subst (λ (xs : List Bool). IsMet xs m) same is)

    was_met : (m : ℕ) → IsMet f.met m → IsMet e.met m
    was_met m is = subst (λ (xs : List Bool). IsMet xs m) (sym same) is

    waited : (m : ℕ) → Contains (f.waiting ++ n ∷ []) m → Contains e.waiting m
    waited m is = subst (λ (xs : List ℕ). Contains xs m) (sym popped) is

    sound : (m : ℕ) → IsMet f.met m ⊎ (Contains (targets_in graph n) m × Contains g.waiting m) → Walk (Leads (targets_in graph)) from m
    sound m (inl before) = h.sound m (was_met m before)
    sound m (inr now) = then n m (h.sound n (h.waits_met n (waited n (Contains-push f.waiting n)))) now.0

    waits : (m : ℕ) → Contains f.waiting m ⊎ IsMet g.met m → IsMet g.met m
    waits m (inl before) = kept m (h.waits_met m (waited m (Contains-append_left f.waiting (n ∷ []) m before)))
    waits m (inr now) = now

    at_n : (k : ℕ) → n ≡ k → (m : ℕ) → Contains (targets_in graph k) m → IsMet g.met m
    at_n k is m among = p.all m (subst (λ (j : ℕ). Contains (targets_in graph j) m) (sym is) among)

    stays : (k : ℕ) → Contains f.waiting k ⊎ (n ≡ k) → Contains g.waiting k ⊎ ((m : ℕ) → Contains (targets_in graph k) m → IsMet g.met m)
    stays k (inl before) = inl (p.still_waits k before)
    stays k (inr is) = inr (at_n k is)

    before_now : (k : ℕ) → Contains e.waiting k ⊎ ((m : ℕ) → Contains (targets_in graph k) m → IsMet e.met m)
        → Contains g.waiting k ⊎ ((m : ℕ) → Contains (targets_in graph k) m → IsMet g.met m)
    before_now k (inl is) = stays k (Contains-push_cases f.waiting n k (subst (λ (xs : List ℕ). Contains xs k) popped is))
    before_now k (inr done) = inr (λ m among. kept m (done m among))

    gone : (k : ℕ) → IsMet f.met k ⊎ (Contains (targets_in graph n) k × Contains g.waiting k)
        → Contains g.waiting k ⊎ ((m : ℕ) → Contains (targets_in graph k) m → IsMet g.met m)
    gone k (inl is) = before_now k (h.gone_on k (was_met k is))
    gone k (inr now) = inl now.1

complete : (graph : Graph) (from : ℕ) (f : Front) → IsUnderWay graph from f → f.waiting ≡ [] → (m : ℕ)
    → Walk (Leads (targets_in graph)) from m → IsMet f.met m
complete graph from f h empty m (one m' among) = h.first m' among
complete graph from f h empty m (then k m' w among) = onward (h.gone_on k (complete graph from f h empty k w))
  where
    onward : Contains f.waiting k ⊎ ((j : ℕ) → Contains (targets_in graph k) j → IsMet f.met j) → IsMet f.met m'
    onward (inl waits) = absurd (nothing_among k (subst (λ (xs : List ℕ). Contains xs k) empty waits))
    onward (inr done) = done m' among

-- nothing waits any longer
pub all_reached : (graph : Graph) (from : ℕ) (f : Front) → IsUnderWay graph from f → f.waiting ≡ [] → AreVisited graph from f.met
all_reached graph from f h empty = record { sound = h.sound; complete = complete graph from f h empty }
