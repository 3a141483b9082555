use Rattle.std.proofs.Common.{false, not, ap, ◌∙◌, is_some}
use Rattle.schemars_definitions.proofs.Words.{IfOk-weaker, boolean, put, get_member}
use Rattle.schemars_definitions.proofs.texts.TextsDefinitions.begin.Goals as goal

pub invariant_of-self : goal.invariant_of-self
invariant_of-self g c = c.begin.ensures.ordered g.C.Change.made c.self.invariant

pub returns-clause-is_new : goal.returns-clause-is_new
returns-clause-is_new g c = IfOk-weaker c.begin.result _ _
    (λ b is. is ∙ ap (λ ms. not (is_some (get_member c.args.name.now ms))) c.self.view_is) c.begin.ensures.is_new

pub returns-clause-begun : goal.returns-clause-begun
returns-clause-begun g c = IfOk-weaker c.begin.result _ _
    (λ b added yes. added yes ∙ ap (put c.args.name.now (boolean false)) c.self.view_is) c.begin.ensures.begun
