-- Every reference of a document passes a test, where those to other rows do: it resolves, or it names a key.
use Rattle.std.proofs.Common.{◌≡◌, ◌<◌, inl, inr, ℕ, zero, suc, List, [], ◌∷◌, ◌++◌, length, get_or, Option, Bool, true, Ordering, Less, Equal, Greater, nat_cmp, Contains, refl, sym, ap, ◌∙◌, arith}
use Rattle.schemars_headline.proofs.Words.{◌&&◌, match_ordering, slice_cmp, exact_bytes, Data, string, object, Members, no_members, member, put, Text, IsSchema, references, resolves, all_resolve, root_document, Basis, IsWritten, Describes, references-root, HasPlainNotesThroughout, All, All-head, All-tail, found_in, found_in_members, found_in_keywords, found_under, IsReferring, described_refers, written_refers, and_parts}
use Rattle.schemars_headline.proofs.Keys.{AllMembers, IsDefinitionsKey}

-- all of these references pass a test
abbrev pub all_pass : (Data → Bool) → List Data → Bool
all_pass p [] = true
all_pass p (x ∷ xs) = p x && all_pass p xs

pub all_pass-resolve : (document : Data) (xs : List Data) → all_pass (resolves document) xs ≡ all_resolve document xs
all_pass-resolve document [] = refl
all_pass-resolve document (x ∷ xs) = ap (λ b. resolves document x && b) (all_pass-resolve document xs)

module _ (test : Data → Bool) where
  abbrev pub Resolve : List Data → Type 0
  Resolve xs = all_pass test xs ≡ true

  resolve-at : (xs : List Data) (x : Data) (i : ℕ) → Resolve xs → i < length xs → get_or xs i x ≡ x → test x ≡ true
  resolve-at [] x i all less is = absurd (omega (arith, less))
  resolve-at (y ∷ ys) x zero all less is = ap test (sym is) ∙ (and_parts (test y) (all_pass test ys) all).0
  resolve-at (y ∷ ys) x (suc i) all less is = resolve-at ys x i (and_parts (test y) (all_pass test ys) all).1 (omega (arith, less)) is

  pub resolve-each : (xs : List Data) (x : Data) → Resolve xs → Contains xs x → test x ≡ true
  resolve-each xs x all h = resolve-at xs x h.0 all h.1 h.2

  abbrev Passes : Data → Type 0
  Passes x = test x ≡ true

  all-resolve : (xs : List Data) → All Passes xs → Resolve xs
  all-resolve [] all = refl
  all-resolve (x ∷ xs) all = rw (All-head Passes x xs all, all-resolve xs (All-tail Passes x xs all))

  resolve-append : (xs ys : List Data) → Resolve xs → Resolve ys → Resolve (xs ++ ys)
  resolve-append [] ys h g = g
  resolve-append (x ∷ xs) ys h g = let parts = and_parts (test x) (all_pass test xs) h in rw (parts.0, resolve-append xs ys parts.1 g)

  resolve-parts : (xs ys : List Data) → Resolve (xs ++ ys) → Resolve xs × Resolve ys
  resolve-parts [] ys h = (refl, h)
  resolve-parts (x ∷ xs) ys h =
      let parts = and_parts (test x) (all_pass test (xs ++ ys)) h in
      let rest = resolve-parts xs ys parts.1 in
      (rw (parts.0, rest.0), rest.1)

  -- ---- the document of a row

  abbrev pub IsResolved : Data → Type 0
  IsResolved s = IsSchema s × Resolve (references s)

  module _ (basis : Basis) (Refers : ℕ → Text → Type 0) (noted : HasPlainNotesThroughout basis.rows)
      (lead : (j : ℕ) (r : Text) → Refers j r → test (string r) ≡ true) where
    resolved : (t : Data) → IsReferring Passes t → IsResolved t
    resolved t h = (h.0, all-resolve (references t) h.1)

    pub described_resolved : (d n : ℕ) (t : Data) → Describes basis Refers d n t → IsResolved t
    described_resolved d n t h = resolved t (described_refers Passes basis Refers noted lead d n t h)

    pub written_resolved : (d n : ℕ) (t : Data) → IsWritten Refers (Describes basis Refers d) n t → IsResolved t
    written_resolved d n t h = resolved t (written_refers Passes basis Refers noted lead d n t h)

  pub root_resolved : (name : Text) (uri : Option Text) (s : Data) → IsResolved s → Resolve (references (root_document name uri s))
  root_resolved name uri s h = ap (all_pass test) (references-root name uri s) ∙ h.1

  -- ---- with definitions

  keywords-put : (k : Text) (d : Data) (ms : Members) → Resolve (found_under k d) → Resolve (found_in_keywords ms)
      → Resolve (found_in_keywords (put k d ms))
  unfolding found_in
  keywords-put k d no_members here all = resolve-append (found_under k d) [] here refl
  keywords-put k d (member l e ms) here all = go (slice_cmp nat_cmp k l) refl (keywords-put k d ms here parts.1)
    where
      parts : Resolve (found_under l e) × Resolve (found_in_keywords ms)
      parts = resolve-parts (found_under l e) (found_in_keywords ms) all

      go : (o : Ordering) → slice_cmp nat_cmp k l ≡ o → Resolve (found_in_keywords (put k d ms))
          → Resolve (found_in_keywords (match_ordering o (member k d (member l e ms)) (member l d ms) (member l e (put k d ms))))
      go Less is later = resolve-append (found_under k d) (found_in_keywords (member l e ms)) here all
      go Equal is later = resolve-append (found_under l d) (found_in_keywords ms)
          (ap (λ x. all_pass test (found_under x d)) (sym (exact_bytes k l is)) ∙ here) parts.1
      go Greater is later = resolve-append (found_under l e) (found_in_keywords (put k d ms)) parts.0 later

  abbrev pub AllResolve : Members → Type 0
  AllResolve ms = AllMembers (λ d. Resolve (references d)) ms

  resolved_definitions : (definitions : Members) → AllResolve definitions → Resolve (found_in_members definitions)
  unfolding found_in
  resolved_definitions no_members h = refl
  resolved_definitions (member k d ms) h = resolve-append (references d) (found_in_members ms) h.0 (resolved_definitions ms h.1)

  found_under_key : (key : Text) (definitions : Members) → IsDefinitionsKey key
      → found_under key (object definitions) ≡ found_in_members definitions
  unfolding found_in
  found_under_key key definitions (inl is) = rw is
  found_under_key key definitions (inr is) = rw is

  pub placed_resolved : (key : Text) (definitions ms : Members) → IsDefinitionsKey key → AllResolve definitions
      → Resolve (references (object ms)) → Resolve (references (object (put key (object definitions) ms)))
  unfolding found_in
  placed_resolved key definitions ms is all h = keywords-put key (object definitions) ms
      (rw (found_under_key key definitions is) (resolved_definitions definitions all)) h
