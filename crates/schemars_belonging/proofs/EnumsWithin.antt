-- The enums among the members of a row, row by row.
use Rattle.std.proofs.Common.{◌≡◌, ℕ, suc, List, [], ◌++◌, Option, Some, None, refl, sym, ap, ◌∙◌, append-nil}
use Rattle.schemars_belonging.proofs.Words.{option_map_or, Entry, Row, entry_at, without_options, enums_within, shape_enums}

within_none : (rows : List Row) (n : ℕ) → enums_within rows 0 n ≡ []
unfolding enums_within
within_none rows n = refl

within_row : (rows : List Row) (steps n : ℕ)
    → enums_within rows (suc steps) n
    ≡ option_map_or (λ e. shape_enums (λ p. enums_within rows steps (without_options rows p.ty)) n e.shape) (entry_at rows n) []
unfolding enums_within
within_row rows steps n = refl

abbrev enums_of : List Row → ℕ → ℕ → Option Entry → List ℕ
enums_of rows steps n o = option_map_or (λ e. shape_enums (λ p. enums_within rows steps (without_options rows p.ty)) n e.shape) o []

pub some_row : (rows : List Row) (steps below n : ℕ) (e : Entry) → suc below ≡ steps → Some e ≡ entry_at rows n
    → enums_within rows steps n ≡ shape_enums (λ p. enums_within rows below (without_options rows p.ty)) n e.shape
some_row rows steps below n e one is =
    ap (λ k. enums_within rows k n) (sym one) ∙ (within_row rows below n ∙ ap (enums_of rows below n) (sym is))

-- nothing is added
pub no_steps : (found : List ℕ) (rows : List Row) (steps n : ℕ) → steps ≡ 0 → found ≡ found ++ enums_within rows steps n
no_steps found rows steps n none =
    sym (ap (λ ns. found ++ ns) (ap (λ k. enums_within rows k n) none ∙ within_none rows n) ∙ append-nil found)

pub no_row : (found : List ℕ) (rows : List Row) (steps below n : ℕ) → suc below ≡ steps → None ≡ entry_at rows n
    → found ≡ found ++ enums_within rows steps n
no_row found rows steps below n one is =
    let none = ap (λ k. enums_within rows k n) (sym one) ∙ (within_row rows below n ∙ ap (enums_of rows below n) (sym is)) in
    sym (ap (λ ns. found ++ ns) none ∙ append-nil found)
