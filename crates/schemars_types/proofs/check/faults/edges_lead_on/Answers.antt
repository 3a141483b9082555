use Rattle.std.proofs.Common.{ℕ, List, All, ◌∙◌, subst}
use Rattle.schemars_types.proofs.Words.{OnTrue, LeadsOn}
use Rattle.schemars_types.proofs.Ascending.{all_nowhere}
use Rattle.schemars_types.proofs.check.faults.edges_lead_on.Goals as goal

pub returns-then-refers_to_none : goal.returns-then-refers_to_none
returns-then-refers_to_none c =
    all_nowhere (LeadsOn c.args.types.now c.args.from c.args.n) c.args.kind c.args.types.now c.args.n c.if-refers_to_none.ensures

pub returns : goal.returns
returns c =
    let P : List ℕ → Type 0 = λ ms. OnTrue c.all_lead_on.result (All (LeadsOn c.args.types.now c.args.from c.args.n) ms) in
    subst P (c.deref.ensures.value ∙ c.in_ok-targets.ensures) c.all_lead_on.ensures
