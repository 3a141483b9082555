-- Under a keyword that is neither joined nor merged the first stays.
use Rattle.std.proofs.Common.{sym, ◌∙◌}
use Rattle.schemars_flatten.proofs.Words.{view}
use Rattle.schemars_flatten.proofs.Parts.{united_other}
use Rattle.schemars_flatten.proofs.union.unite_values.Goals as goal

pub returns-else-is_merged : goal.returns-else-is_merged
returns-else-is_merged c =
    united_other c.args.key.now (view c.args.first.now) (view c.args.second)
    (sym c.is_joined.ensures ∙ c.if-is_joined.false)
    (sym c.is_merged.ensures ∙ c.if-is_merged.false)
