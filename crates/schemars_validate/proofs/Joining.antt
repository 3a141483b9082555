-- What several schemas say, taken one after another.
use Rattle.std.proofs.Common.{◌≡◌, List, [], ◌∷◌, ◌++◌, refl, sym, ap, ◌∙◌, append_assoc}
use Rattle.schemars_validate.proofs.Words.{Verdict, Yes, No, Open, both, opposite, all_of, none_of, one_of, both-yes, both-swap, both-assoc, SoFar, with_one, with_each, joined_by, taken_by}
use Rattle.schemars_validate.specs.declared.joined.Join as join
use Rattle.schemars_validate.specs.Joined.{one_more}

abbrev of_list : List Verdict → SoFar
of_list xs = record { all = all_of xs; none = none_of xs; one = one_of xs }

all_last : (xs : List Verdict) (x : Verdict) → both (all_of xs) x ≡ all_of (xs ++ x ∷ [])
all_last [] x = sym (both-yes x)
all_last (y ∷ xs) x = both-assoc y (all_of xs) x ∙ ap (both y) (all_last xs x)

none_last : (xs : List Verdict) (x : Verdict) → both (none_of xs) (opposite x) ≡ none_of (xs ++ x ∷ [])
none_last [] x = sym (both-yes (opposite x))
none_last (y ∷ xs) x = both-assoc (opposite y) (none_of xs) (opposite x) ∙ ap (both (opposite y)) (none_last xs x)

all_open : (x : Verdict) → Open ≡ both x Open
all_open Yes = refl
all_open No = refl
all_open Open = refl

one_last : (xs : List Verdict) (x : Verdict) → one_more x (of_list xs) ≡ one_of (xs ++ x ∷ [])
one_last [] Yes = refl
one_last [] No = refl
one_last [] Open = refl
one_last (Yes ∷ xs) Yes = both-swap No (none_of xs) ∙ none_last xs Yes
one_last (Yes ∷ xs) No = sym (both-yes (none_of xs)) ∙ none_last xs No
one_last (Yes ∷ xs) Open = all_open (none_of xs) ∙ none_last xs Open
one_last (No ∷ xs) Yes = one_last xs Yes
one_last (No ∷ xs) No = one_last xs No
one_last (No ∷ xs) Open = one_last xs Open
one_last (Open ∷ xs) Yes = refl
one_last (Open ∷ xs) No = refl
one_last (Open ∷ xs) Open = refl

last : (xs : List Verdict) (x : Verdict) → with_one (of_list xs) x ≡ of_list (xs ++ x ∷ [])
last xs x = λ i. record { all = all_last xs x i; none = none_last xs x i; one = one_last xs x i }

appended : (xs ys : List Verdict) → with_each (of_list xs) ys ≡ of_list (xs ++ ys)
appended xs [] = ap of_list (sym (no_more xs))
  where
    no_more : (xs : List Verdict) → xs ++ [] ≡ xs
    no_more [] = refl
    no_more (x ∷ xs) = ap (λ ys. x ∷ ys) (no_more xs)
appended xs (y ∷ ys) = ap (λ j. with_each j ys) (last xs y) ∙ (appended (xs ++ y ∷ []) ys ∙ ap of_list (append_assoc xs (y ∷ []) ys))

pub taken_joined : (j : join.Join) (xs : List Verdict)
    → taken_by j (with_each (record { all = Yes; none = Yes; one = No }) xs) ≡ joined_by j xs
taken_joined join.TheVariants.All xs = ap (λ s. s.all) (appended [] xs)
taken_joined join.TheVariants.Any xs = ap (λ s. opposite s.none) (appended [] xs)
taken_joined join.TheVariants.One xs = ap (λ s. s.one) (appended [] xs)
