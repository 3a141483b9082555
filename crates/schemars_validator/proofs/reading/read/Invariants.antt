-- The expressions that were asked, and those that are left.
use Rattle.std.proofs.Common.{◌≡◌, drop}
use Rattle.schemars_validator.proofs.Words.{◌||◌, view, Text, some_has, texts_of, some_answer}
use Rattle.schemars_validator.proofs.reading.read.Given as goal

abbrev pub invariant-loop-expression : goal.invariant-loop-expression
invariant-loop-expression l = (p t : Text)
    → (some_has l.matched.items p t || some_answer (drop l.expression-index l.expressions) (texts_of (view l.value)) p t)
    ≡ some_answer l.expressions (texts_of (view l.value)) p t
