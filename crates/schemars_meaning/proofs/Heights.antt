-- Smaller values first, for documents of every depth; then references; then the depth of the document.
use Rattle.std.proofs.Common.{◌≡◌, ◌⊎◌, inl, inr, ℕ, zero, suc, ◌+◌, ◌*◌, ◌<◌, ◌≤◌, Some, Bool, sym, ap, ◌∙◌, subst, arith}
use Rattle.schemars_meaning.proofs.Words.{Data, depth, Text, IsJson, verdict, Dialect, Patterns, Judge, judge, resolved, follow, context_of}

module _ (dialect : Dialect) (patterns : Patterns) (document : Data) (Refers : ℕ → Text → Type 0) (D : ℕ → ℕ → Data → Type 0)
    (B : ℕ → ℕ → Data → Bool) (hops rank : ℕ → ℕ) (most ranks : ℕ)
    (resolves : (j : ℕ) (r : Text) → Refers j r → (found : Data) × (s : Data) × (d : ℕ) × (resolved document r ≡ Some found)
    × ((f : Text → Judge) → judge (context_of dialect patterns f) found ≡ judge (context_of dialect patterns f) s) × D d j s) where
  abbrev at_most : ℕ → Text → Judge
  at_most n = follow dialect document patterns n

  -- of values of this height
  abbrev pub Good : ℕ → ℕ → Type 0
  Good h n = (j : ℕ) (r : Text) → Refers j r → (w : Data) → IsJson w → depth w ≡ h → (m : ℕ) → depth w * most + hops j < n
      → depth w * ranks + rank j < m → (at_most n r).fits w ≡ verdict (B m j w)

  abbrev pub Said : ℕ → ℕ → ℕ → Type 0
  Said h n d = (k : ℕ) (t : Data) → D d k t → (v : Data) → IsJson v → depth v ≡ h → (m : ℕ) → depth v * most + hops k ≤ n
      → depth v * ranks + rank k < m → (judge (context_of dialect patterns (at_most n)) t).fits v ≡ verdict (B m k v)

  abbrev pub All : ℕ → ℕ → Type 0
  All h n = Good h n × ((d : ℕ) → Said h n d)

  abbrev pub Below : ℕ → ℕ → Type 0
  Below h n = (l : ℕ) → l < h → All l n

  followed : (n : ℕ) (r : Text) (t : Data) → resolved document r ≡ Some t
      → at_most (suc n) r ≡ judge (context_of dialect patterns (at_most n)) t
  unfolding follow
  followed n r t e = rw (e, follow)

  -- one row: its document says what it means, where those of smaller values do whatever the depth, and the value itself in what
  -- the document refers to and holds
  module _ (nothing : (k : ℕ) (t : Data) → D zero k t → ⊥)
      (own : (h n d : ℕ) → Below h n → Good h n → Said h n d → Said h n (suc d)) where
    said : (h n : ℕ) → Below h n → Good h n → (d : ℕ) → Said h n d
    said h n below good zero = λ k t is v json same m costs low. absurd (nothing k t is)
    said h n below good (suc d) = own h n d below good (said h n below good d)

    at : (h : ℕ) → ((n : ℕ) → Below h n) → (n : ℕ) → All h n
    at h below zero =
        let good : Good h zero = λ j r is w js same m costs low. absurd (omega arith) in
        (good, said h zero (below zero) good)
    at h below (suc n) =
        let before : All h n = at h below n in
        let good : Good h (suc n) = λ j r is w js same m costs low.
        let to = resolves j r is in
        ap (λ (p : Judge). p.fits w) (followed n r to.0 to.3 ∙ to.4 (at_most n))
        ∙ before.1 to.2 j to.1 to.5 w js same m (omega arith) low in
        (good, said h (suc n) (below (suc n)) good)

    all_below : (h n : ℕ) → Below h n
    all_below zero n l less = absurd (omega arith)
    all_below (suc h) n l less = go (split l h (omega arith)) (at h (all_below h) n) (all_below h n)
      where
        split : (a b : ℕ) → a < suc b → (a < b) ⊎ (a ≡ b)
        split a b h = grind arith

        go : (l < h) ⊎ (l ≡ h) → All h n → Below h n → All l n
        go (inl low) here lower = lower l low
        go (inr same) here lower = subst (λ x. All x n) (sym same) here

    -- at each height, with any number of references
    pub all : (h n : ℕ) → All h n
    all h n = at h (all_below h) n
