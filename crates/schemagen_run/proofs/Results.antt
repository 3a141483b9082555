-- What a call's answer says, and what the exit of a `?` returns.
use Rattle.std.proofs.Common.{◌≡◌, Result, Ok, Err, IfOk, IfErr, OnOk}
use Rattle.std.specs.Result.{IsErrAnd}

pub ok_at_err : {T E : Type 0} (P : T → Type 0) (Q : E → Type 0) (r : Result T E) → IsErrAnd r Q → IfOk r P
ok_at_err P Q (Ok x) h = absurd h
ok_at_err P Q (Err e) h = tt

pub err_passed : {T E : Type 0} {P Q : E → Type 0} (r : Result T E) → IsErrAnd r Q → ((e : E) → Q e → P e) → IfErr r P
err_passed (Ok x) h f = tt
err_passed (Err e) h f = f e h

pub so_at_ok : {T E P : Type 0} (r : Result T E) → P → OnOk r P
so_at_ok (Ok x) p = p
so_at_ok (Err e) p = tt

-- an error that is passed on
pub passed_on : {T E : Type 0} (r : Result T E) (e : E) → IsErrAnd r (λ f. f ≡ e) → r ≡ Err e
passed_on (Ok x) e h = absurd h
passed_on (Err f) e h = cc

pub same_error : {T E : Type 0} (r : Result T E) (e f : E) → r ≡ Err e → r ≡ Err f → e ≡ f
same_error r e f h i = cc

pub ok_is_no_error : {T E : Type 0} (x : T) (e : E) → Ok x ≡ Err e → ⊥
ok_is_no_error x e h = cc

pub other_result : {T U E : Type 0} (r : Result T E) (s : Result U E) (e f : E) → r ≡ Err e → s ≡ Err e → s ≡ Err f → r ≡ Err f
other_result r s e f is alike h = cc
