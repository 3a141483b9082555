-- One token more, unless memory ran out.
use Rattle.std.proofs.Common.{refl, ap, ◌∙◌}
use Rattle.schemars_text.proofs.Words.{token_of, Output, with_token}
use Rattle.schemars_text.proofs.Becomings.{neither}
use Rattle.schemars_text.proofs.memory.InMemoryTargetUnit.token.Goals as goal

pub returns-in-Ok : goal.returns-in-Ok
returns-in-Ok c = λ start o h.
    (with_token o (token_of c.args.token), λ none. c.in-Ok.ensures ∙ ap (λ (w : Output). with_token w (token_of c.args.token)) (h none), λ _. refl)

pub returns-in-Some : goal.returns-in-Some
returns-in-Some c = λ start o h. (with_token o (token_of c.args.token), λ none. absurd (neither _ _ c.in-Some.is none), λ _. refl)

pub returns-in-Err : goal.returns-in-Err
returns-in-Err c = λ start o h. (with_token o (token_of c.args.token), λ none. absurd (neither _ _ refl none), λ _. refl)
