-- What is kept of a value stays right.
use Rattle.std.proofs.Common.{◌≡◌, ◌<◌, ◌++◌, Vec, Global, ℕ, zero, suc, List, [], ◌∷◌, Option, Some, None, length, get_or, set, refl, sym, ap, ◌∙◌, subst, arith}
use Rattle.std.specs.Prelude.{option_and_then, slice_get}
use Rattle.std.specs.List.{All}
use Rattle.std.proofs.lemmas.List.Elements.{All-append, All-get_or}
use Rattle.std.proofs.lemmas.Option.{slice_get-get_or}
use Rattle.serde_json.specs.Data.{Data}
use Rattle.schemars_validate.specs.declared.memo.Known.{Known}
use Rattle.schemars_validate.specs.declared.memo.Memo.{Memo, out-Memo}
use Rattle.schemars_validate.specs.declared.memo.Memo.TheViews.{out-roll-Memo, roll-Memo}
use Rattle.schemars_validate.specs.Memos.{Following, IsRight, part_of, inside_at, known_at, kept_in, IsKnown, IsKnownIn, IsKnownAt, Nothing, Keeps, Takes}

-- a memo of what is known of a value, and of its parts
abbrev pub memo_of : Vec Known Global → Vec Memo Global → Memo
memo_of k ps = roll-Memo (record { known = k; parts = ps })

all_none : {X : Type 0} (P : X → Type 0) → All P []
all_none P k d h = absurd (omega arith)

all_one : {X : Type 0} (P : X → Type 0) (x : X) → P x → All P (x ∷ [])
all_one P x h zero d few = h
all_one P x h (suc k) d few = absurd (omega arith)

-- ---- what is kept on a path

abbrev fields_at : List ℕ → List Known → List Memo → List Known
fields_at [] ks ps = ks
fields_at (n ∷ path) ks ps = kept_in path (slice_get ps n)

kept_of : (ks : Vec Known Global) (ps : Vec Memo Global) (path : List ℕ) → known_at path (memo_of ks ps) ≡ fields_at path ks.items ps.items
kept_of ks ps [] = ap (λ r. r.known.items) (out-roll-Memo (record { known = ks; parts = ps }))
kept_of ks ps (n ∷ path) = ap (λ r. kept_in path (slice_get r.parts.items n)) (out-roll-Memo (record { known = ks; parts = ps }))

known_of : (to : Following) (v : Data) (ks : Vec Known Global) (ps : Vec Memo Global)
    → ((path : List ℕ) (w : Data) → inside_at path v ≡ Some w → All (IsRight to w) (fields_at path ks.items ps.items))
    → IsKnown to v (memo_of ks ps)
unfolding IsKnown
known_of to v ks ps h path w at = subst (All (IsRight to w)) (sym (kept_of ks ps path)) (h path w at)

known_inside : (to : Following) (v : Data) (m : Memo) → IsKnown to v m → (path : List ℕ) (w : Data) → inside_at path v ≡ Some w
    → All (IsRight to w) (known_at path m)
unfolding IsKnown
known_inside to v m known path w at = known path w at

-- ---- nothing is kept

pub nothing : (ks : Vec Known Global) (ps : Vec Memo Global) → ks.items ≡ [] → ps.items ≡ [] → Nothing (memo_of ks ps)
nothing ks ps none no_parts to v = known_of to v ks ps (λ path w at. go path w)
  where
    go : (path : List ℕ) (w : Data) → All (IsRight to w) (fields_at path ks.items ps.items)
    go [] w = subst (All (IsRight to w)) (sym none) (all_none (IsRight to w))
    go (n ∷ path) w = subst (λ xs. All (IsRight to w) (kept_in path (slice_get xs n))) (sym no_parts) (all_none (IsRight to w))

-- ---- one more is kept

same_value : (v w : Data) → Some v ≡ Some w → v ≡ w
same_value v w is = cc

pub learnt : (m : Memo) (ks : Vec Known Global) (k : Known) → ks.items ≡ (out-Memo m).known.items ++ k ∷ []
    → (to : Following) (v : Data) → IsKnown to v m → IsRight to v k → IsKnown to v (memo_of ks (out-Memo m).parts)
learnt m ks k more to v known right = known_of to v ks (out-Memo m).parts go
  where
    go : (path : List ℕ) (w : Data) → inside_at path v ≡ Some w → All (IsRight to w) (fields_at path ks.items (out-Memo m).parts.items)
    go [] w at =
        subst (All (IsRight to w)) (sym more) (All-append (IsRight to w) (out-Memo m).known.items (k ∷ []) (known_inside to v m known [] w at)
        (all_one (IsRight to w) k (subst (λ x. IsRight to x k) (same_value v w at) right)))
    go (n ∷ path) w at = known_inside to v m known (n ∷ path) w at

all_first : {X : Type 0} (P : X → Type 0) (x y : X) (xs : List X) → All P (x ∷ xs) → P y → All P (y ∷ xs)
all_first P x y xs all here zero d few = here
all_first P x y xs all here (suc j) d few = all (suc j) d few

all_later : {X : Type 0} (P : X → Type 0) (x : X) (xs ys : List X) → All P (x ∷ xs) → All P ys → All P (x ∷ ys)
all_later P x xs ys all rest zero d few = all zero d (omega arith)
all_later P x xs ys all rest (suc j) d few = rest j d (omega arith)

all_set : {X : Type 0} (P : X → Type 0) (xs : List X) (i : ℕ) (y : X) → All P xs → P y → All P (set xs i y)
all_set P [] i y all here = all
all_set P (x ∷ xs) zero y all here = all_first P x y xs all here
all_set P (x ∷ xs) (suc i) y all here =
    all_later P x xs (set xs i y) all (all_set P xs i y (λ j d few. all (suc j) d (omega arith)) here)

-- in place of another
pub relearnt : (m : Memo) (ks : Vec Known Global) (k : Known) (i : ℕ) → ks.items ≡ set (out-Memo m).known.items i k
    → (to : Following) (v : Data) → IsKnown to v m → IsRight to v k → IsKnown to v (memo_of ks (out-Memo m).parts)
relearnt m ks k i more to v known right = known_of to v ks (out-Memo m).parts go
  where
    go : (path : List ℕ) (w : Data) → inside_at path v ≡ Some w → All (IsRight to w) (fields_at path ks.items (out-Memo m).parts.items)
    go [] w at =
        subst (All (IsRight to w)) (sym more) (all_set (IsRight to w) (out-Memo m).known.items i k (known_inside to v m known [] w at)
        (subst (λ x. IsRight to x k) (same_value v w at) right))
    go (n ∷ path) w at = known_inside to v m known (n ∷ path) w at

-- what is known of the value itself
pub known_here : (to : Following) (v : Data) (m : Memo) → IsKnown to v m → All (IsRight to v) (out-Memo m).known.items
known_here to v m known = known_inside to v m known [] v refl

pub known_item : (to : Following) (v : Data) (m : Memo) (ks : List Known) (i : ℕ) (k : Known) → ks ≡ (out-Memo m).known.items
    → i < length ks → k ≡ get_or ks i k → IsKnown to v m → IsRight to v k
known_item to v m ks i k same within is known =
    subst (IsRight to v) (sym is)
    (All-get_or (IsRight to v) ks i k within (subst (All (IsRight to v)) (sym same) (known_here to v m known)))

pub unchanged : (m : Memo) (ks : Vec Known Global) (ps : Vec Memo Global) → ks.items ≡ (out-Memo m).known.items
    → ps.items ≡ (out-Memo m).parts.items → Keeps m (memo_of ks ps)
unchanged m ks ps same parts to v known = known_of to v ks ps go
  where
    go : (path : List ℕ) (w : Data) → inside_at path v ≡ Some w → All (IsRight to w) (fields_at path ks.items ps.items)
    go [] w at = subst (All (IsRight to w)) (sym same) (known_inside to v m known [] w at)
    go (n ∷ path) w at =
        subst (λ xs. All (IsRight to w) (kept_in path (slice_get xs n))) (sym parts) (known_inside to v m known (n ∷ path) w at)

-- ---- the part at a place

pub part_known : (to : Following) (v w : Data) (m : Memo) (n : ℕ) → IsKnown to v m → part_of n v ≡ Some w → IsKnownAt to n w m
unfolding IsKnown
part_known to v w m n known is =
    go (slice_get (out-Memo m).parts.items n) (λ path x at. known (n ∷ path) x (ap (option_and_then (inside_at path)) is ∙ at))
  where
    go : (o : Option Memo) → ((path : List ℕ) (x : Data) → inside_at path w ≡ Some x → All (IsRight to x) (kept_in path o)) → IsKnownIn to w o
    go None h = tt
    go (Some p) h = h

pub taken : (m p : Memo) (n : ℕ) → n < length (out-Memo m).parts.items → get_or (out-Memo m).parts.items n p ≡ p → Takes m n p
taken m p n within is to w known =
    subst (λ (o : Option Memo). IsKnownIn to w o)
    (slice_get-get_or (out-Memo m).parts.items n p within ∙ ap Some is) known

pub none_taken : (m p : Memo) (n : ℕ) → Nothing p → Takes m n p
none_taken m p n none to w known = none to w

-- each part is as it was, or nothing is kept of it
emptied : (m e : Memo) (ps : Vec Memo Global) → Nothing e
    → ((P : Option Memo → Type 0) (j : ℕ) → P (slice_get (out-Memo m).parts.items j) → P (Some e) → P (slice_get ps.items j))
    → Keeps m (memo_of (out-Memo m).known ps)
emptied m e ps none parts to v known = known_of to v (out-Memo m).known ps go
  where
    there : (o : Option Data) (path : List ℕ) (w : Data) → option_and_then (inside_at path) o ≡ Some w → All (IsRight to w) (known_at path e)
    there None path w is = cc
    there (Some x) path w is = known_inside to x e (none to x) path w is

    go : (path : List ℕ) (w : Data) → inside_at path v ≡ Some w → All (IsRight to w) (fields_at path (out-Memo m).known.items ps.items)
    go [] w at = known_inside to v m known [] w at
    go (j ∷ path) w at =
        parts (λ o. All (IsRight to w) (kept_in path o)) j (known_inside to v m known (j ∷ path) w at) (there (part_of j v) path w at)

set_or : {X : Type 0} (P : Option X → Type 0) (xs : List X) (n j : ℕ) (x : X) → P (slice_get xs j) → (j ≡ n → P (Some x))
    → P (slice_get (set xs n x) j)
set_or P [] n j x other here = other
set_or P (y ∷ xs) zero zero x other here = here refl
set_or P (y ∷ xs) zero (suc j) x other here = other
set_or P (y ∷ xs) (suc n) zero x other here = other
set_or P (y ∷ xs) (suc n) (suc j) x other here = set_or P xs n j x other (λ is. here (ap suc is))

more_or : {X : Type 0} (P : Option X → Type 0) (xs : List X) (x : X) (j : ℕ) → P (slice_get xs j) → P (Some x)
    → P (slice_get (xs ++ x ∷ []) j)
more_or P [] x zero other last = last
more_or P [] x (suc j) other last = other
more_or P (y ∷ xs) x zero other last = other
more_or P (y ∷ xs) x (suc j) other last = more_or P xs x j other last

pub part_emptied : (m e : Memo) (ps : Vec Memo Global) (n : ℕ) → Nothing e → ps.items ≡ set (out-Memo m).parts.items n e
    → Keeps m (memo_of (out-Memo m).known ps)
part_emptied m e ps n none parts = emptied m e ps none
    (λ P j other here. subst (λ xs. P (slice_get xs j)) (sym parts) (set_or P (out-Memo m).parts.items n j e other (λ is. here)))

pub part_added : (m e : Memo) (ps : Vec Memo Global) → Nothing e → ps.items ≡ (out-Memo m).parts.items ++ e ∷ []
    → Keeps m (memo_of (out-Memo m).known ps)
part_added m e ps none parts = emptied m e ps none
    (λ P j other last. subst (λ xs. P (slice_get xs j)) (sym parts) (more_or P (out-Memo m).parts.items e j other last))

-- what is known of the part takes its place
pub part_put : (m p : Memo) (ps : Vec Memo Global) (n : ℕ) → ps.items ≡ set (out-Memo m).parts.items n p
    → (to : Following) (v w : Data) → IsKnown to v m → part_of n v ≡ Some w → IsKnown to w p → IsKnown to v (memo_of (out-Memo m).known ps)
part_put m p ps n parts to v w known is right = known_of to v (out-Memo m).known ps go
  where
    go : (path : List ℕ) (x : Data) → inside_at path v ≡ Some x → All (IsRight to x) (fields_at path (out-Memo m).known.items ps.items)
    go [] x at = known_inside to v m known [] x at
    go (j ∷ path) x at =
        subst (λ xs. All (IsRight to x) (kept_in path (slice_get xs j))) (sym parts)
        (set_or (λ o. All (IsRight to x) (kept_in path o)) (out-Memo m).parts.items n j p (known_inside to v m known (j ∷ path) x at)
        (λ here. known_inside to w p right path x (sym (ap (option_and_then (inside_at path)) (ap (λ k. part_of k v) here ∙ is)) ∙ at)))
