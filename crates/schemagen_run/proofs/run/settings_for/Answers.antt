-- The contract and the rows in place are those that are asked for.
use Rattle.std.proofs.Common.{ap}
use Rattle.schemars_headline.specs.State.{Settings}
use Rattle.schemagen_run.proofs.run.settings_for.Goals as goal

pub returns-clause-settings : goal.returns-clause-settings
returns-clause-settings c =
    let asked = c.args.asked in
    ap (λ (s : Settings). record s { contract = asked.contract; inlines = asked.inlines }) c.in_ok-settings.ensures.settings
