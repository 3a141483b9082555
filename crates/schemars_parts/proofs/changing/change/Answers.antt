-- What the rules of a local transform make is what it makes.
use Rattle.std.proofs.Common.{◌∙◌, sym}
use Rattle.schemars_parts.proofs.Words.{IfOk-weaker, assembled_view}
use Rattle.schemars_parts.proofs.Rules.{made_by_rules}
use Rattle.schemars_parts.proofs.changing.change.Goals as goal

pub returns-then-is_local : goal.returns-then-is_local
returns-then-is_local c =
    IfOk-weaker c.change_schema.result _ _
    (λ p h. h ∙ made_by_rules c.args.transform.now (assembled_view c.args.schema) (sym c.is_local.ensures ∙ c.if-is_local.true))
    c.change_schema.ensures
