-- Texts that join a list one after another, each once.
use Rattle.std.proofs.Common.{◌≡◌, ◌||◌, ◌&&◌, ◌∙◌, List, [], ◌∷◌, ◌++◌, Bool, true, false, not, cond, filter, refl, ap, sym, true≢false, append-nil}
use Rattle.std.specs.Prelude.{bytes_eq}
use Rattle.schemars_types.proofs.Words.{list_any, list_any-append, bytes_eq-Decides, insert_key, insert_all, Text, once, AreListed}

pub listed_last : (p : Text → Bool) (ts : List Text) (u : Text) → p u ≡ true → list_any p (ts ++ u ∷ []) ≡ true
listed_last p [] u is = rw is refl
listed_last p (t ∷ ts) u is = either (p t) (listed_last p ts u is)
  where
    either : (b : Bool) → list_any p (ts ++ u ∷ []) ≡ true → b || list_any p (ts ++ u ∷ []) ≡ true
    either true h = refl
    either false h = h

pub listed_still : (p : Text → Bool) (ts : List Text) (u : Text) → list_any p ts ≡ true → list_any p (ts ++ u ∷ []) ≡ true
listed_still p ts u h = list_any-append p ts (u ∷ []) ∙ ap (λ b. b || list_any p (u ∷ [])) h

-- ---- one text joins

key_there : (ts : List Text) (u : Text) → list_any (bytes_eq u) ts ≡ true → insert_key bytes_eq ts u ≡ ts
key_there ts u h = rw h refl

key_new : (ts : List Text) (u : Text) → list_any (bytes_eq u) ts ≡ false → insert_key bytes_eq ts u ≡ ts ++ u ∷ []
key_new ts u h = rw h refl

listed_after : (p : Text → Bool) (ts : List Text) (u : Text) → list_any p ts ≡ true → list_any p (insert_key bytes_eq ts u) ≡ true
listed_after p ts u h = by (list_any (bytes_eq u) ts) refl
  where
    by : (b : Bool) → list_any (bytes_eq u) ts ≡ b → list_any p (insert_key bytes_eq ts u) ≡ true
    by true e = ap (list_any p) (key_there ts u e) ∙ h
    by false e = ap (list_any p) (key_new ts u e) ∙ listed_still p ts u h

listed_itself : (ts : List Text) (u : Text) → list_any (bytes_eq u) (insert_key bytes_eq ts u) ≡ true
listed_itself ts u = by (list_any (bytes_eq u) ts) refl
  where
    by : (b : Bool) → list_any (bytes_eq u) ts ≡ b → list_any (bytes_eq u) (insert_key bytes_eq ts u) ≡ true
    by true e = ap (list_any (bytes_eq u)) (key_there ts u e) ∙ e
    by false e = ap (list_any (bytes_eq u)) (key_new ts u e) ∙ listed_last (bytes_eq u) ts u ((bytes_eq-Decides u u).1 refl)

-- ---- texts join

listed_after_all : (p : Text → Bool) (us ts : List Text) → list_any p ts ≡ true → list_any p (insert_all bytes_eq ts us) ≡ true
listed_after_all p [] ts h = h
listed_after_all p (u ∷ us) ts h = listed_after_all p us (insert_key bytes_eq ts u) (listed_after p ts u h)

pub listed_more : (us ts vs : List Text) → AreListed us ts → AreListed us (insert_all bytes_eq ts vs)
listed_more [] ts vs h = tt
listed_more (u ∷ us) ts vs h = (listed_after_all (bytes_eq u) vs ts h.0, listed_more us ts vs h.1)

pub listed_own : (us ts : List Text) → AreListed us (insert_all bytes_eq ts us)
listed_own [] ts = tt
listed_own (u ∷ us) ts = (
  listed_after_all (bytes_eq u) us (insert_key bytes_eq ts u) (listed_itself ts u),
  listed_own us (insert_key bytes_eq ts u),
)

pub nothing_joins : (us ts : List Text) → AreListed us ts → insert_all bytes_eq ts us ≡ ts
nothing_joins [] ts h = refl
nothing_joins (u ∷ us) ts h = ap (λ xs. insert_all bytes_eq xs us) (key_there ts u h.0) ∙ nothing_joins us ts h.1

pub insert_all-append : (us vs ts : List Text) → insert_all bytes_eq ts (us ++ vs) ≡ insert_all bytes_eq (insert_all bytes_eq ts us) vs
insert_all-append [] vs ts = refl
insert_all-append (u ∷ us) vs ts = insert_all-append us vs (insert_key bytes_eq ts u)

-- ---- each once

filter_weaker : (p q : Text → Bool) (xs : List Text) → ((x : Text) → p x ≡ true → q x ≡ true) → filter p (filter q xs) ≡ filter p xs
filter_weaker p q [] h = refl
filter_weaker p q (x ∷ xs) h = by (p x) (q x) refl refl (filter_weaker p q xs h)
  where
    by : (a b : Bool) → p x ≡ a → q x ≡ b → filter p (filter q xs) ≡ filter p xs
        → filter p (cond b (x ∷ filter q xs) (filter q xs)) ≡ cond a (x ∷ filter p xs) (filter p xs)
    by true true e f rest = rw e (ap (λ ys. x ∷ ys) rest)
    by true false e f rest = absurd (true≢false (sym (h x e) ∙ f))
    by false true e f rest = rw e rest
    by false false e f rest = rest

filter_both : (p q r : Text → Bool) (xs : List Text) → ((x : Text) → r x ≡ q x && p x) → filter p (filter q xs) ≡ filter r xs
filter_both p q r [] h = refl
filter_both p q r (x ∷ xs) h = by (p x) (q x) refl refl (h x) (filter_both p q r xs h)
  where
    by : (a b : Bool) → p x ≡ a → q x ≡ b → r x ≡ q x && p x → filter p (filter q xs) ≡ filter r xs
        → filter p (cond b (x ∷ filter q xs) (filter q xs)) ≡ filter r (x ∷ xs)
    by true true e f is rest = let yes : r x ≡ true = is ∙ (λ i. f i && e i) in rw (e, yes) (ap (λ ys. x ∷ ys) rest)
    by false true e f is rest = let no : r x ≡ false = is ∙ (λ i. f i && e i) in rw (e, no) rest
    by a false e f is rest = let no : r x ≡ false = is ∙ (λ i. f i && e i) in rw no rest

filter_all : (xs : List Text) → filter (λ x. true) xs ≡ xs
filter_all [] = refl
filter_all (x ∷ xs) = ap (λ ys. x ∷ ys) (filter_all xs)

abbrev is_new : List Text → Text → Bool
is_new ts u = not (list_any (bytes_eq u) ts)

other_text : (ts : List Text) (u x : Text) → list_any (bytes_eq u) ts ≡ true → is_new ts x ≡ true → not (bytes_eq x u) ≡ true
other_text ts u x there new = by (bytes_eq x u) refl
  where
    by : (b : Bool) → bytes_eq x u ≡ b → not b ≡ true
    by false e = refl
    by true e =
        let same : x ≡ u = (bytes_eq-Decides x u).0 e in
        let also : list_any (bytes_eq x) ts ≡ true = ap (λ y. list_any (bytes_eq y) ts) same ∙ there in
        sym (ap not also) ∙ new

new_after : (ts : List Text) (u x : Text) → is_new (ts ++ u ∷ []) x ≡ not (bytes_eq x u) && is_new ts x
new_after ts u x = ap not (list_any-append (bytes_eq x) ts (u ∷ [])) ∙ by (list_any (bytes_eq x) ts) (bytes_eq x u)
  where
    by : (a b : Bool) → not (a || (b || false)) ≡ not b && not a
    by true true = refl
    by true false = refl
    by false true = refl
    by false false = refl

append_one : (ts us : List Text) (u : Text) → (ts ++ u ∷ []) ++ us ≡ ts ++ u ∷ us
append_one [] us u = refl
append_one (t ∷ ts) us u = ap (λ xs. t ∷ xs) (append_one ts us u)

-- the texts that are not there join, in their first places
insert_all-once : (us ts : List Text) → insert_all bytes_eq ts us ≡ ts ++ filter (is_new ts) (once us)
insert_all-once [] ts = sym (append-nil ts)
insert_all-once (u ∷ us) ts = by (list_any (bytes_eq u) ts) refl (insert_all-once us ts) (insert_all-once us (ts ++ u ∷ []))
  where
    others : List Text
    others = filter (λ v. not (bytes_eq v u)) (once us)

    by : (b : Bool) → list_any (bytes_eq u) ts ≡ b → insert_all bytes_eq ts us ≡ ts ++ filter (is_new ts) (once us)
        → insert_all bytes_eq (ts ++ u ∷ []) us ≡ (ts ++ u ∷ []) ++ filter (is_new (ts ++ u ∷ [])) (once us)
        → insert_all bytes_eq ts (u ∷ us) ≡ ts ++ filter (is_new ts) (u ∷ others)
    by true e there new =
        let same : filter (is_new ts) others ≡ filter (is_new ts) (once us) =
        filter_weaker (is_new ts) (λ v. not (bytes_eq v u)) (once us) (λ x h. other_text ts u x e h) in
        let first : filter (is_new ts) (u ∷ others) ≡ filter (is_new ts) others = rw e refl in
        ap (λ xs. insert_all bytes_eq xs us) (key_there ts u e) ∙ (there ∙ ap (λ xs. ts ++ xs) (sym (first ∙ same)))
    by false e there new =
        let same : filter (is_new ts) others ≡ filter (is_new (ts ++ u ∷ [])) (once us) =
        filter_both (is_new ts) (λ v. not (bytes_eq v u)) (is_new (ts ++ u ∷ [])) (once us) (new_after ts u) in
        let first : filter (is_new ts) (u ∷ others) ≡ u ∷ filter (is_new ts) others = rw e refl in
        ap (λ xs. insert_all bytes_eq xs us) (key_new ts u e) ∙ (new ∙ (append_one ts (filter (is_new (ts ++ u ∷ [])) (once us)) u
        ∙ ap (λ xs. ts ++ xs) (sym (first ∙ ap (λ xs. u ∷ xs) same))))

pub once_by_joining : (us : List Text) → insert_all bytes_eq [] us ≡ once us
once_by_joining us = insert_all-once us [] ∙ filter_all (once us)
