-- The text is that of what was written.
use Rattle.std.proofs.Common.{None, ap, ◌∙◌}
use Rattle.schemars_text.proofs.Words.{IfOk-weaker, Output}
use Rattle.schemars_text.proofs.writing.Document.to_text.Goals as goal

pub returns-clause-ordered : goal.returns-clause-ordered
returns-clause-ordered c =
    let (p, at_p, is) = c.write.ensures None _ (λ _. c.in_ok-text.ensures) in
    IfOk-weaker c.into_string.result _ _ (λ s h whole. h.1 ∙ ap (λ (o : Output). o.text) (at_p h.0 ∙ is whole)) c.into_string.ensures.text
