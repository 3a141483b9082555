-- Marks that are set where others are, one after another.
use Rattle.std.proofs.Common.{◌≡◌, ◌+◌, ◌<◌, ℕ, zero, suc, List, [], ◌∷◌, length, take, set, get_or, Bool, true, false, refl, sym, ap, ◌∙◌, add-one, arith}
use Rattle.std.specs.Prelude.{◌||◌, if◌then◌else◌}
use Rattle.schemars_validate.specs.Judged.{united}

or_on : (b : Bool) → true ≡ (b || true)
or_on true = refl
or_on false = refl

or_off : (b : Bool) → b ≡ (b || false)
or_off true = refl
or_off false = refl

set_mark : (m b : Bool) (bs : List Bool) → (if m then true ∷ bs else b ∷ bs) ≡ (b || m) ∷ bs
set_mark true b bs = ap (λ c. c ∷ bs) (or_on b)
set_mark false b bs = ap (λ c. c ∷ bs) (or_off b)

set_later : (m b : Bool) (bs cs ds : List Bool) → (if m then cs else bs) ≡ ds → (if m then b ∷ cs else b ∷ bs) ≡ b ∷ ds
set_later true b bs cs ds is = ap (λ xs. b ∷ xs) is
set_later false b bs cs ds is = ap (λ xs. b ∷ xs) is

same_either : (m : Bool) (bs : List Bool) → (if m then bs else bs) ≡ bs
same_either true bs = refl
same_either false bs = refl

next : (ms bs : List Bool) (i : ℕ) (d : Bool) → i < length ms
    → (if get_or ms i d then set (united (take i ms) bs) i true else united (take i ms) bs) ≡ united (take (suc i) ms) bs
next [] bs i d within = absurd (omega arith)
next (m ∷ ms) [] zero d within = same_either m []
next (m ∷ ms) [] (suc i) d within = same_either (get_or ms i d) []
next (m ∷ ms) (b ∷ bs) zero d within = set_mark m b bs
next (m ∷ ms) (b ∷ bs) (suc i) d within = set_later (get_or ms i d) (b || m) _ _ _ (next ms bs i d (omega arith))

-- the next mark
pub united_next : (ms bs new : List Bool) (i : ℕ) → i < length ms → (now : List Bool) → now ≡ united (take i ms) bs
    → new ≡ (if get_or ms i false then set now i true else now) → new ≡ united (take (i + 1) ms) bs
united_next ms bs new i within now before is =
    is ∙ (ap (λ xs. if get_or ms i false then set xs i true else xs) before
    ∙ (next ms bs i false within ∙ ap (λ n. united (take n ms) bs) (sym (add-one i))))
