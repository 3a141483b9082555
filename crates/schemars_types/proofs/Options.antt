-- A row without the Options around it.
use Rattle.std.proofs.Common.{◌≡◌, ℕ, zero, suc, List, Some, None, ap, refl}
use Rattle.schemars_types.proofs.Words.{Row, option_at, without_options_within}

pub stops : (rows : List Row) (steps n : ℕ) → option_at rows n ≡ None → without_options_within rows steps n ≡ n
stops rows zero n none = refl
stops rows (suc steps) n none = ap (λ o. elim o [ None ↦ n | Some m ↦ without_options_within rows steps m ]) none

pub goes : (rows : List Row) (steps n m : ℕ) → option_at rows n ≡ Some m
    → without_options_within rows (suc steps) n ≡ without_options_within rows steps m
goes rows steps n m some = ap (λ o. elim o [ None ↦ n | Some k ↦ without_options_within rows steps k ]) some
