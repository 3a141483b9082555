-- No other keyword is read.
use Rattle.std.proofs.Common.{sym, ◌∙◌}
use Rattle.schemars_validate.proofs.Words.{members_view}
use Rattle.schemars_validate.proofs.Chaining.{lone_if}
use Rattle.schemars_validate.proofs.chains.lone_reference.Goals as goal

pub returns : goal.returns
returns c =
    lone_if (λ s. s.now) c.args.dialect (members_view c.args.keywords.now.entries) c.reference_in.result c.reference_in.ensures
    (sym c.judges_more.ensures ∙ c.if-judges_more.false)
