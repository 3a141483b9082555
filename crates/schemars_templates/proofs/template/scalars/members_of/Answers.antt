use Rattle.std.proofs.Common.{map, sym, ◌∙◌}
use Rattle.schemars_templates.proofs.Words.{at_drop_all, members_view, put_all, scalar_keyword}
use Rattle.schemars_templates.proofs.template.scalars.members_of.Goals as goal

pub returns : goal.returns
returns c =
    sym (at_drop_all (λ ks. put_all (map scalar_keyword ks) (members_view c.loop-keyword.members.entries)) c.args.keywords.now
    c.loop-keyword.keyword-index c.loop-keyword-test.false)
    ∙ c.loop-keyword.invariant
