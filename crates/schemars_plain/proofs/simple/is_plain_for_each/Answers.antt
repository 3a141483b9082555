-- A table that is not plain is plain for each dialect by being plain under the contract.
use Rattle.std.proofs.Common.{inl, inr, sym, true, false, true≢false, ◌∙◌}
use Rattle.schemars_plain.proofs.Words.{IfOk-weaker}
use Rattle.schemars_plain.proofs.simple.is_plain_for_each.Goals as goal

pub returns : goal.returns
returns c =
    IfOk-weaker c.is_plain_under.result _ _ (λ b under. (
      λ t. inr (c.in_ok-has_none.ensures.0 c.if-not-has_none.false, under.0 t),
      λ p. elim p [
        | inl plain ↦ absurd (true≢false (sym (c.in_ok-plain.ensures.1 plain) ∙ c.if-plain.false))
        | inr h ↦ under.1 h.1
      ],
    )) c.is_plain_under.ensures
