use Rattle.std.proofs.Common.{ap, ◌∙◌}
use Rattle.schemars_types.specs.Rows.{entry_at}
use Rattle.schemars_types.proofs.table.Types.entry.Goals as goal

pub returns : goal.returns
returns c = c.entry.ensures ∙ ap (λ rows. entry_at rows c.args.n) c.self.view_is
