-- A whole number's digits are its text.
use Rattle.std.proofs.Common.{◌≡◌, ◌++◌, ◌∷◌, [], sym, rules}
use Rattle.schemars_text.proofs.Words.{signed_decimal, number}
use Rattle.schemars_text.proofs.Outputs.{output_of_push, number_text_of_u64, number_text_of_i64}
use Rattle.schemars_text.proofs.output.Output.number.Goals as goal

pub returns-in_ok-u64 : goal.returns-in_ok-u64
returns-in_ok-u64 c = λ _.
    rw (number_text_of_u64 _ _ (sym c.in-Some.ensures), ← c.self.view_is) (output_of_push _ _ _ c.in_ok-u64.ensures.ok)

pub returns-in_ok-i64 : goal.returns-in_ok-i64
returns-in_ok-i64 c = λ _.
    let tokens : c.i64.new.self.tokens ≡ c.self.inside.writer.tokens ++ number (signed_decimal c.in-Some-as_i64.below_zero) ∷ [] =
    search rules in
    rw (number_text_of_i64 _ _ (sym c.in-Some-as_i64.ensures), ← c.self.view_is) (output_of_push _ _ _ tokens)
