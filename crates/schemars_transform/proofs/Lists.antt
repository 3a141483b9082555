-- Lists of transforms, one transform further.
use Rattle.std.proofs.Common.{◌≡◌, ℕ, zero, suc, ◌+◌, ◌<◌, ◌||◌, ◌↔◌, Bool, true, false, IsTrue, List, [], ◌∷◌, ◌++◌, length, get_or, take, Result, Err, refl, sym, ap, subst, ◌∙◌, add-one, arith}
use Rattle.schemars_transform.proofs.Words.{list_any-append, all_zipped_more, take-suc, is_own, some_own, IsCopy, AreCopies}
use Rattle.schemars_transform.specs.declared.gen_transform.GenTransform.{GenTransform}
use Rattle.schemars_transform.specs.declared.error.CloneError.{CloneError}
use Rattle.schemars_transform.specs.declared.error.CloneError.TheVariants.{OwnTransform}

pub one_more_copy : {O P : Type 0} (ts : List (GenTransform O)) (cs : List (GenTransform P)) (i : ℕ) (t : GenTransform O)
    (c : GenTransform P) → i < length ts → t ≡ get_or ts i t → AreCopies (take i ts) cs → IsCopy t c
    → AreCopies (take (i + 1) ts) (cs ++ c ∷ [])
one_more_copy ts cs i t c within is done here =
    rw add-one (subst (λ xs. AreCopies xs (cs ++ c ∷ [])) (sym (take-suc ts i t within))
    (all_zipped_more IsCopy (take i ts) cs (get_or ts i t) c done (subst (λ x. IsCopy x c) is here)))

either_false : (a b : Bool) → a ≡ false → b ≡ false → (a || (b || false)) ≡ false
either_false true b h k = cc
either_false false true h k = cc
either_false false false h k = refl

pub one_more_built_in : {P : Type 0} (cs : List (GenTransform P)) (c : GenTransform P) → some_own cs ≡ false → is_own c ≡ false
    → some_own (cs ++ c ∷ []) ≡ false
one_more_built_in cs c none built_in =
    list_any-append is_own cs (c ∷ []) ∙ either_false (some_own cs) (is_own c) none built_in

left_false : (a b : Bool) → (a || b) ≡ false → a ≡ false
left_false true b h = h
left_false false b h = refl

right_false : (a b : Bool) → (a || b) ≡ false → b ≡ false
right_false true b h = cc
right_false false b h = h

built_in_there : {O : Type 0} (ts : List (GenTransform O)) (i : ℕ) (d : GenTransform O) → i < length ts → some_own ts ≡ false
    → is_own (get_or ts i d) ≡ false
built_in_there [] i d within none = absurd (omega arith)
built_in_there (t ∷ ts) zero d within none = left_false (is_own t) (some_own ts) none
built_in_there (t ∷ ts) (suc i) d within none = built_in_there ts i d (omega arith) (right_false (is_own t) (some_own ts) none)

-- each of a list with none of one's own is built in
pub built_in_at : {O : Type 0} (ts : List (GenTransform O)) (i : ℕ) (t : GenTransform O) → i < length ts → t ≡ get_or ts i t
    → some_own ts ≡ false → is_own t ≡ false
built_in_at ts i t within is none = ap is_own is ∙ built_in_there ts i t within none

-- another answer, where none is of one's own
pub another_answer : {X : Type 0} (r : Result X CloneError) (own : Bool) → own ≡ false → (r ≡ Err OwnTransform → ⊥)
    → (r ≡ Err OwnTransform) ↔ IsTrue own
another_answer r own none other = (λ e. absurd (other e), λ e. cc)

-- a built-in transform is not refused as one of one's own
pub refused_otherwise : {X Y : Type 0} (r : Result X CloneError) (y x : CloneError) (own : Bool) → own ≡ false
    → r ≡ Err y → y ≡ x → (◌≡◌ {A = Result Y CloneError} (Err x) (Err OwnTransform) → IsTrue own) → r ≡ Err OwnTransform → ⊥
refused_otherwise {Y = Y} r y x own none is from asked e =
    let k : x ≡ OwnTransform = cc in
    let refusal : CloneError → Result Y CloneError = λ z. Err z in
    let true_there : own ≡ true = asked (ap refusal k) in cc
