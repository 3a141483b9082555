-- One number more, unless memory ran out.
use Rattle.std.proofs.Common.{refl, ap, ◌∙◌}
use Rattle.schemars_text.proofs.Words.{number, number_view, number_text, Output, with_token}
use Rattle.schemars_text.proofs.Becomings.{neither}
use Rattle.schemars_text.proofs.memory.InMemoryTargetUnit.number.Goals as goal

pub returns-in-Ok : goal.returns-in-Ok
returns-in-Ok c = λ start o h.
    let t = number (number_text (number_view c.args.n)) in
    (c.number.new.self, λ _. refl, λ whole. c.in-Ok.ensures whole ∙ ap (λ (w : Output). with_token w t) (h c.in-None.is))

pub returns-in-Some : goal.returns-in-Some
returns-in-Some c = λ start o h. (with_token o (number (number_text (number_view c.args.n))), λ none. absurd (neither _ _ c.in-Some.is none), λ _. refl)

pub returns-in-Err : goal.returns-in-Err
returns-in-Err c = λ start o h. (with_token o (number (number_text (number_view c.args.n))), λ none. absurd (neither _ _ refl none), λ _. refl)
