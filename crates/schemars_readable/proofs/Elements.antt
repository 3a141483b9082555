-- Which elements a list has.
use Rattle.std.proofs.Common.{◌≡◌, ◌⊎◌, inl, inr, ℕ, zero, suc, ◌<◌, length, get_or, List, [], ◌∷◌, ◌++◌, Bool, true, false, refl, sym, ap, subst, ◌∙◌, arith, Contains}
use Rattle.schemars_readable.proofs.Words.{◌||◌, ◌&&◌, if◌then◌else◌, bytes_eq, string_bytes, bytes_eq-Decides, Contains-append_left, Contains-append_right, Contains-append_cases, Contains-push, Contains-push_cases, is_listed, Text, has_pair, with_new, with_patterns, asked_of, IsRefusalAmong}
use Rattle.schemars_readable.specs.declared.expressions.Asked.{Asked}
use Rattle.schemars_readable.specs.declared.refusal.Refusal.{Refusal}
use Rattle.schemars_readable.specs.declared.refusal.Refusal.TheVariants as refusal

pub none_there : {X : Type 0} (x : X) → Contains [] x → ⊥
none_there x h = omega (arith, h.1)

pub first_there : {X : Type 0} (x : X) (xs : List X) → Contains (x ∷ xs) x
first_there x xs = Contains-append_left (x ∷ []) xs x (Contains-push [] x)

pub later_there : {X : Type 0} (x : X) (xs : List X) (y : X) → Contains xs y → Contains (x ∷ xs) y
later_there x xs y h = Contains-append_right (x ∷ []) xs y h

pub first_or_later : {X : Type 0} (x : X) (xs : List X) (y : X) → Contains (x ∷ xs) y → (x ≡ y) ⊎ Contains xs y
first_or_later x xs y h = go (Contains-append_cases (x ∷ []) xs y h)
  where
    go : Contains (x ∷ []) y ⊎ Contains xs y → (x ≡ y) ⊎ Contains xs y
    go (inl one) = alone (Contains-push_cases [] x y one)
      where
        alone : Contains [] y ⊎ (x ≡ y) → (x ≡ y) ⊎ Contains xs y
        alone (inl none) = absurd (none_there y none)
        alone (inr is) = inl is
    go (inr later) = inr later

-- ---- pairs, each once

abbrev Pair : Type 0
Pair = Text × Text

pub pair_there : (ps : List Pair) (x : Pair) → has_pair ps x ≡ true → Contains ps x
pair_there [] x h = cc
pair_there (p ∷ ps) x h = go (bytes_eq p.0 x.0) (bytes_eq p.1 x.1) refl refl h (pair_there ps x)
  where
    go : (a b : Bool) → bytes_eq p.0 x.0 ≡ a → bytes_eq p.1 x.1 ≡ b → ((a && b) || has_pair ps x) ≡ true
        → (has_pair ps x ≡ true → Contains ps x) → Contains (p ∷ ps) x
    go true true one two either later =
        let first : p.0 ≡ x.0 = (bytes_eq-Decides p.0 x.0).0 one in
        let second : p.1 ≡ x.1 = (bytes_eq-Decides p.1 x.1).0 two in
        let same : p ≡ x = ap (λ t. (t, p.1)) first ∙ ap (λ t. (x.0, t)) second in
        subst (Contains (p ∷ ps)) same (first_there p ps)
    go true false one two either later = later_there p ps x (later either)
    go false b one two either later = later_there p ps x (later either)

pub with_new-old : (ps xs : List Pair) (x : Pair) → Contains ps x → Contains (with_new ps xs) x
with_new-old ps [] x h = h
with_new-old ps (y ∷ xs) x h = with_new-old (if has_pair ps y then ps else ps ++ y ∷ []) xs x (go (has_pair ps y))
  where
    go : (b : Bool) → Contains (if b then ps else ps ++ y ∷ []) x
    go true = h
    go false = Contains-append_left ps (y ∷ []) x h

pub with_new-new : (ps xs : List Pair) (x : Pair) → Contains xs x → Contains (with_new ps xs) x
with_new-new ps [] x h = absurd (none_there x h)
with_new-new ps (y ∷ xs) x h =
    go (first_or_later y xs x h) (with_new-new (if has_pair ps y then ps else ps ++ y ∷ []) xs x)
  where
    added : (b : Bool) → has_pair ps y ≡ b → Contains (if b then ps else ps ++ y ∷ []) y
    added true is = pair_there ps y is
    added false is = Contains-push ps y

    go : (y ≡ x) ⊎ Contains xs x → (Contains xs x → Contains (with_new (if has_pair ps y then ps else ps ++ y ∷ []) xs) x)
        → Contains (with_new (if has_pair ps y then ps else ps ++ y ∷ []) xs) x
    go (inl is) more =
        subst (Contains (with_new (if has_pair ps y then ps else ps ++ y ∷ []) xs)) is
        (with_new-old (if has_pair ps y then ps else ps ++ y ∷ []) xs y (added (has_pair ps y) refl))
    go (inr later) more = more later

pub with_new-only : (ps xs : List Pair) (x : Pair) → Contains (with_new ps xs) x → Contains ps x ⊎ Contains xs x
with_new-only ps [] x h = inl h
with_new-only ps (y ∷ xs) x h = go (with_new-only (if has_pair ps y then ps else ps ++ y ∷ []) xs x h)
  where
    old : (b : Bool) → Contains (if b then ps else ps ++ y ∷ []) x → Contains ps x ⊎ Contains (y ∷ xs) x
    old true there = inl there
    old false there = one (Contains-push_cases ps y x there)
      where
        one : Contains ps x ⊎ (y ≡ x) → Contains ps x ⊎ Contains (y ∷ xs) x
        one (inl before) = inl before
        one (inr is) = inr (subst (Contains (y ∷ xs)) is (first_there y xs))

    go : Contains (if has_pair ps y then ps else ps ++ y ∷ []) x ⊎ Contains xs x → Contains ps x ⊎ Contains (y ∷ xs) x
    go (inl there) = old (has_pair ps y) there
    go (inr later) = inr (later_there y xs x later)

-- ---- patterns, each once

pub listed_there : (k : Text) (ls : List Text) → is_listed k ls ≡ true → Contains ls k
listed_there k [] h = cc
listed_there k (l ∷ ls) h = go (bytes_eq k l) refl h (listed_there k ls)
  where
    go : (b : Bool) → bytes_eq k l ≡ b → (b || is_listed k ls) ≡ true → (is_listed k ls ≡ true → Contains ls k) → Contains (l ∷ ls) k
    go true is either later = subst (Contains (l ∷ ls)) (sym ((bytes_eq-Decides k l).0 is)) (first_there l ls)
    go false is either later = later_there l ls k (later either)

pub with_patterns-old : (ls : List Text) (xs : List Pair) (l : Text) → Contains ls l → Contains (with_patterns ls xs) l
with_patterns-old ls [] l h = h
with_patterns-old ls (y ∷ xs) l h = with_patterns-old (if is_listed y.1 ls then ls else ls ++ y.1 ∷ []) xs l (go (is_listed y.1 ls))
  where
    go : (b : Bool) → Contains (if b then ls else ls ++ y.1 ∷ []) l
    go true = h
    go false = Contains-append_left ls (y.1 ∷ []) l h

pub with_patterns-new : (ls : List Text) (xs : List Pair) (x : Pair) → Contains xs x → Contains (with_patterns ls xs) x.1
with_patterns-new ls [] x h = absurd (none_there x h)
with_patterns-new ls (y ∷ xs) x h =
    go (first_or_later y xs x h) (with_patterns-new (if is_listed y.1 ls then ls else ls ++ y.1 ∷ []) xs x)
  where
    added : (b : Bool) → is_listed y.1 ls ≡ b → Contains (if b then ls else ls ++ y.1 ∷ []) y.1
    added true is = listed_there y.1 ls is
    added false is = Contains-push ls y.1

    go : (y ≡ x) ⊎ Contains xs x → (Contains xs x → Contains (with_patterns (if is_listed y.1 ls then ls else ls ++ y.1 ∷ []) xs) x.1)
        → Contains (with_patterns (if is_listed y.1 ls then ls else ls ++ y.1 ∷ []) xs) x.1
    go (inl is) more =
        subst (λ z. Contains (with_patterns (if is_listed y.1 ls then ls else ls ++ y.1 ∷ []) xs) z.1) is
        (with_patterns-old (if is_listed y.1 ls then ls else ls ++ y.1 ∷ []) xs y.1 (added (is_listed y.1 ls) refl))
    go (inr later) more = more later

-- ---- what is asked for

abbrev pub pair_of : Asked → Pair
pair_of a = (string_bytes a.place, a.pattern.now)

pub asked_there : (es : List Asked) (i : ℕ) (e : Asked) → i < length es → get_or es i e ≡ e → Contains (asked_of es) (pair_of e)
asked_there [] i e less at = absurd (omega arith)
asked_there (x ∷ es) zero e less at =
    subst (λ y. Contains (pair_of x ∷ asked_of es) (pair_of y)) at (first_there (pair_of x) (asked_of es))
asked_there (x ∷ es) (suc i) e less at = later_there (pair_of x) (asked_of es) (pair_of e) (asked_there es i e (omega arith) at)

-- a refusal for one of them
pub among_more : (es : List Asked) (e : Asked) (r : Refusal) → Contains (asked_of es) (pair_of e)
    → IsRefusalAmong (asked_of (e ∷ [])) r → IsRefusalAmong (asked_of es) r
among_more es e refusal.OutOfMemory there h = tt
among_more es e refusal.NotASchema there h = h
among_more es e (refusal.Unread us) there h = h
among_more es e (refusal.Pattern u) there h = (only es e (string_bytes u.place, string_bytes u.keyword) there h.0, h.1)
  where
    only : (es : List Asked) (e : Asked) (x : Pair) → Contains (asked_of es) (pair_of e) → Contains (pair_of e ∷ []) x → Contains (asked_of es) x
    only es e x there h = go (first_or_later (pair_of e) [] x h)
      where
        go : (pair_of e ≡ x) ⊎ Contains [] x → Contains (asked_of es) x
        go (inl is) = subst (Contains (asked_of es)) is there
        go (inr none) = absurd (none_there x none)
