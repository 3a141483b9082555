use Rattle.std.proofs.Common.{◌∙◌, ap}
use Rattle.schemars_belonging.proofs.Words.{options_within, said_of, said_by}
use Rattle.schemars_belonging.proofs.KeyOptions.{allowed_key}
use Rattle.schemars_belonging.proofs.keys.is_key_allowed.Goals as goal

pub returns-in-Some : goal.returns-in-Some
returns-in-Some g c =
    let rows = c.args.types.now in
    let patterns = g.P.Patterns.reading c.args.patterns.now in
    let key = c.args.key.now in
    c.is_allowed.ensures ∙ allowed_key rows patterns c.args.n key (said_of c.in-Some.says)
    (c.in-Some.ensures ∙ ap (λ k. said_by patterns key (options_within rows k c.args.n)) c.len.ensures.len)
