-- A byte that is no control byte and has no letter stands for itself.
use Rattle.std.proofs.Common.{◌≡◌, ◌≤◌, ℕ, zero, suc, eqb, ◌∷◌, [], arith}
use Rattle.schemars_text.proofs.Words.{OnTrue, le-ltb, ne_eqb, escape_byte, escape_letter}
use Rattle.schemars_text.proofs.gathered.is_plain.Goals as goal

no_letter : (x letter : ℕ) → letter ≡ escape_letter x → 32 ≤ x → OnTrue (eqb letter 0) (escape_byte x ≡ x ∷ [])
unfolding escape_byte
no_letter x zero is high = rw (← is, le-ltb x 32 high)
no_letter x (suc l) is high = rw (ne_eqb (suc l) 0 (λ e. omega arith)) tt

pub returns-then-byte-ge32 : goal.returns-then-byte-ge32
returns-then-byte-ge32 c = no_letter c.args.byte c.letter.result c.letter.ensures (omega arith)
