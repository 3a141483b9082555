use Rattle.std.proofs.Common.{ap, ◌∙◌}
use Rattle.schemars_types.proofs.Words.{adding, options_at}
use Rattle.schemars_types.proofs.Adding.{adding-once}
use Rattle.schemars_types.proofs.keys.key_options.Goals as goal

pub returns : goal.returns
returns c =
    let o = options_at c.args.types.now c.args.key in
    c.in_ok-add_row.ensures.added ∙ (ap (λ start. adding start o) c.none.ensures ∙ adding-once o)
