-- What is found, put in or taken out at the place of a name.
use Rattle.std.proofs.Common.{◌≡◌, ℕ, ◌+◌, ◌<◌, ◌≤◌, zero, suc, List, [], ◌∷◌, length, get_or, set, drop, Some, None, is_eq, nat_cmp, Less, Equal, Greater, arith, refl, sym, ap, subst, ◌∙◌, Bor}
use Rattle.schemars_parts.proofs.Words.{drop_all, exact_bytes, is_eq-slice_cmp, slice_cmp, insert, remove, Members, no_members, member, put, get_member, without, Text, IsSorted, above-trans, get_member-above, assembled_view, members_assembled, IsFoundAt, BelongsAt}
use Rattle.schemars_parts.specs.declared.assembled.Assembled.{Assembled}
use Rattle.schemars_parts.proofs.Entries.{Entry}
use Rattle.schemars_parts.proofs.Lists.{next_member}

pub found-within : (k : Text) (es : List Entry) (i : ℕ) → IsFoundAt k (members_assembled es) i → i < length es
found-within k [] i h = absurd h
found-within k (e ∷ es) zero h = omega arith
found-within k (e ∷ es) (suc i) h = omega (arith, found-within k es i h.1)

pub belongs-within : (k : Text) (es : List Entry) (i : ℕ) → BelongsAt k (members_assembled es) i → i ≤ length es
belongs-within k [] zero h = omega arith
belongs-within k [] (suc i) h = absurd h
belongs-within k (e ∷ es) zero h = omega arith
belongs-within k (e ∷ es) (suc i) h = omega (arith, belongs-within k es i h.1)

-- ---- what is found

pub found_part : (k : Text) (es : List Entry) (i : ℕ) (e : Entry) → IsFoundAt k (members_assembled es) i → e ≡ get_or es i e
    → Some (assembled_view e.1) ≡ get_member k (members_assembled es)
found_part k [] i e h is = absurd h
found_part k (f ∷ es) zero e h is = rw h (ap (λ (x : Entry). Some (assembled_view x.1)) is)
found_part k (f ∷ es) (suc i) e h is = rw h.0 (found_part k es i e h.1 is)

pub nothing_found : (k : Text) (ms : Members) (i : ℕ) → BelongsAt k ms i → IsSorted ms → None ≡ get_member k ms
nothing_found k no_members i h sorted = refl
nothing_found k (member l d ms) zero h sorted =
    sym (get_member-above k (member l d ms) (h, above-trans k l ms h sorted.0))
nothing_found k (member l d ms) (suc i) h sorted = rw h.0 (nothing_found k ms i h.1 sorted.1)

-- ---- the edits

pub replaced_at : (name : Bor Text) (p : Assembled) (es : List Entry) (i : ℕ) → IsFoundAt name.now (members_assembled es) i
    → members_assembled (set es i (name, p)) ≡ put name.now (assembled_view p) (members_assembled es)
replaced_at name p [] i h = absurd h
replaced_at name p (e ∷ es) zero h = rw h (ap (λ k. member k (assembled_view p) (members_assembled es)) (exact_bytes name.now e.0.now h))
replaced_at name p (e ∷ es) (suc i) h = rw h.0 (ap (member e.0.now (assembled_view e.1)) (replaced_at name p es i h.1))

pub inserted_at : (name : Bor Text) (p : Assembled) (es : List Entry) (i : ℕ) → BelongsAt name.now (members_assembled es) i
    → members_assembled (insert es i (name, p)) ≡ put name.now (assembled_view p) (members_assembled es)
inserted_at name p [] zero h = refl
inserted_at name p [] (suc i) h = absurd h
inserted_at name p (e ∷ es) zero h = rw h refl
inserted_at name p (e ∷ es) (suc i) h = rw h.0 (ap (member e.0.now (assembled_view e.1)) (inserted_at name p es i h.1))

pub removed_at : (k : Text) (es : List Entry) (i : ℕ) → IsFoundAt k (members_assembled es) i
    → members_assembled (remove es i) ≡ without k (members_assembled es)
removed_at k [] i h = absurd h
removed_at k (e ∷ es) zero h = rw (sym (is_eq-slice_cmp k e.0.now) ∙ ap is_eq h) refl
removed_at k (e ∷ es) (suc i) h =
    rw (sym (is_eq-slice_cmp k e.0.now) ∙ ap is_eq h.0) (ap (member e.0.now (assembled_view e.1)) (removed_at k es i h.1))

-- ---- the search

-- a place among the members from i on is that many places further among all
abbrev pub LeadsOn : (Members → ℕ → Type 0) → List Entry → ℕ → Type 0
LeadsOn IsPlace es i = (j : ℕ) → IsPlace (members_assembled (drop i es)) j → IsPlace (members_assembled es) (i + j)

further : (IsPlace : Members → ℕ → Type 0) (es : List Entry) (i : ℕ) (e : Entry) → i < length es → e ≡ get_or es i e
    → ((j : ℕ) (ms : Members) → IsPlace ms j → IsPlace (member e.0.now (assembled_view e.1) ms) (suc j))
    → LeadsOn IsPlace es i → LeadsOn IsPlace es (i + 1)
further IsPlace es i e within is pass before = λ j h.
    subst (λ n. IsPlace (members_assembled es) n) {x = i + suc j} {y = i + 1 + j} (omega arith)
    (before (suc j) (subst (λ xs. IsPlace (members_assembled xs) (suc j)) (sym (next_member es i e within is))
    (pass j (members_assembled (drop (i + 1) es)) h)))

at_place : (IsPlace : Members → ℕ → Type 0) (es : List Entry) (i : ℕ) (e : Entry) → i < length es → e ≡ get_or es i e
    → ((ms : Members) → IsPlace (member e.0.now (assembled_view e.1) ms) zero)
    → LeadsOn IsPlace es i → IsPlace (members_assembled es) i
at_place IsPlace es i e within is here before =
    subst (λ n. IsPlace (members_assembled es) n) {x = i + zero} {y = i} (omega arith)
    (before zero (subst (λ xs. IsPlace (members_assembled xs) zero) (sym (next_member es i e within is))
    (here (members_assembled (drop (i + 1) es)))))

pub found_at : (k : Text) (es : List Entry) (i : ℕ) (e : Entry) → i < length es → e ≡ get_or es i e
    → slice_cmp nat_cmp k e.0.now ≡ Equal → LeadsOn (IsFoundAt k) es i → IsFoundAt k (members_assembled es) i
found_at k es i e within is same = at_place (IsFoundAt k) es i e within is (λ ms. same)

pub belongs_before : (k : Text) (es : List Entry) (i : ℕ) (e : Entry) → i < length es → e ≡ get_or es i e
    → slice_cmp nat_cmp k e.0.now ≡ Less → LeadsOn (BelongsAt k) es i → BelongsAt k (members_assembled es) i
belongs_before k es i e within is before = at_place (BelongsAt k) es i e within is (λ ms. before)

pub belongs_last : (k : Text) (es : List Entry) (i n : ℕ) → length es ≤ i → i ≡ n → LeadsOn (BelongsAt k) es i
    → BelongsAt k (members_assembled es) n
belongs_last k es i n ended same before =
    subst (λ m. BelongsAt k (members_assembled es) m) {x = i + zero} {y = n} (omega (arith, same))
    (before zero (subst (λ xs. BelongsAt k (members_assembled xs) zero) (sym (drop_all i es ended)) tt))

pub found_further : (k : Text) (es : List Entry) (i : ℕ) (e : Entry) → i < length es → e ≡ get_or es i e
    → slice_cmp nat_cmp k e.0.now ≡ Greater → LeadsOn (IsFoundAt k) es i → LeadsOn (IsFoundAt k) es (i + 1)
found_further k es i e within is behind = further (IsFoundAt k) es i e within is (λ j ms h. (behind, h))

pub belongs_further : (k : Text) (es : List Entry) (i : ℕ) (e : Entry) → i < length es → e ≡ get_or es i e
    → slice_cmp nat_cmp k e.0.now ≡ Greater → LeadsOn (BelongsAt k) es i → LeadsOn (BelongsAt k) es (i + 1)
belongs_further k es i e within is behind = further (BelongsAt k) es i e within is (λ j ms h. (behind, h))
