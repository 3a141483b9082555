-- How many candidates of a base are known to be used.
use Rattle.std.proofs.Common.{◌≡◌, ◌<◌, ◌++◌, ◌∷◌, [], ◌∙◌, ◌||◌, ℕ, List, Bool, true, false, cond, Some, inl, inr, refl, sym, ap, arith, String, Global, string_bytes}
use Rattle.schemars_build.proofs.Words.{◌⊎◌, nat_eq, nat_tests, get_by_text, string_eq, bytes_eq-Decides, Text, NamedRow, Naming, is_used, candidate, AreUsed, ◌+◌, or-true, AllZip, HashMap, UpdatesBy, IsUnchanged, lookup, bytes_eq, list_any-append, hash_map_updates_text, IsFirst, IsNoted, own_bytes}

-- ---- more names

pub used_more : (q : Text) (names more : Naming) → is_used q names ≡ true → is_used q (names ++ more) ≡ true
used_more q names more h = list_any-append (λ x. bytes_eq x.name q) names more ∙ ap (λ b. b || is_used q more) h

pub used_now : (q : Text) (names : Naming) (x : NamedRow) → x.name ≡ q → is_used q (names ++ x ∷ []) ≡ true
used_now q names x same =
    let here : is_used q (x ∷ []) ≡ true = ap (λ y. bytes_eq y q || false) same ∙ ap (λ b. b || false) (own_bytes q) in
    list_any-append (λ y. bytes_eq y.name q) names (x ∷ []) ∙ (ap (λ b. is_used q names || b) here ∙ or-true (is_used q names))

-- the candidates up to the one that is given
pub used_with : (names : Naming) (base : Text) (tries : ℕ) (name : Text) (x : NamedRow) → IsFirst names base tries name → x.name ≡ name
    → AreUsed (names ++ x ∷ []) base (tries + 1)
used_with names base tries name x h same j less = by (nat_eq j tries) refl
  where
    by : (b : Bool) → nat_eq j tries ≡ b → is_used (candidate base j) (names ++ x ∷ []) ≡ true
    by true is =
        let at : j ≡ h.first.tries = let e : j ≡ tries = grind (arith, nat_tests) in e ∙ sym h.behind in
        let named : x.name ≡ candidate base j = same ∙ (h.first.is_candidate ∙ ap (candidate base) (sym at)) in
        used_now (candidate base j) names x named
    by false is =
        let apart : j < tries = grind (arith, nat_tests) in
        let behind = h.behind in
        used_more (candidate base j) names (x ∷ []) (h.first.earlier_are_used j (omega (arith, apart, behind)))

-- ---- what is noted

pub noted_unchanged : {S : Type 0} (old new : HashMap (String Global) ℕ S) (base : Text) (count : ℕ) → IsUnchanged old new
    → IsNoted old base count new
noted_unchanged old new base count same other n h =
    inl (sym (ap (lookup (λ k. bytes_eq other (string_bytes k))) same) ∙ h)

pub noted_updates : {S : Type 0} (old new : HashMap (String Global) ℕ S) (base : Text) (count : ℕ)
    → UpdatesBy string_eq (λ k. bytes_eq base (string_bytes k)) old new (Some count) → IsNoted old base count new
noted_updates old new base count updates other n h = by (bytes_eq base other) refl
  where
    now : get_by_text new other ≡ cond (bytes_eq base other) (Some count) (get_by_text old other)
    now = hash_map_updates_text base old new (Some count) updates other

    by : (b : Bool) → bytes_eq base other ≡ b → (get_by_text old other ≡ Some n) ⊎ ((other ≡ base) × (n ≡ count))
    by true is =
        let there : get_by_text new other ≡ Some count = now ∙ ap (λ b. cond b (Some count) (get_by_text old other)) is in
        inr (sym ((bytes_eq-Decides base other).0 is), cc)
    by false is = inl (sym (now ∙ ap (λ b. cond b (Some count) (get_by_text old other)) is) ∙ h)

-- ---- copies

pub lookup_copied : (bs : Text) (es fs : List (String Global × ℕ))
    → AllZip (λ p q. (string_bytes q.0 ≡ string_bytes p.0) × (q.1 ≡ p.1)) es fs
    → lookup (λ k. bytes_eq bs (string_bytes k)) fs ≡ lookup (λ k. bytes_eq bs (string_bytes k)) es
lookup_copied bs [] [] h = refl
lookup_copied bs (e ∷ es) (f ∷ fs) h = λ i. cond (bytes_eq bs (h.0.0 i)) (Some (h.0.1 i)) (lookup_copied bs es fs h.1 i)
lookup_copied bs [] (f ∷ fs) h = absurd h
lookup_copied bs (e ∷ es) [] h = absurd h
