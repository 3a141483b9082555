use Rattle.std.proofs.Common.{◌≡◌, ◌∙◌, ap, sym, subst, Some}
use Rattle.schemars_build.proofs.Words.{option_copied, get_by_text, Naming, AreUsed}
use Rattle.schemars_build.proofs.names.Names.tried.Goals as goal

pub returns-in-Some : goal.returns-in-Some
returns-in-Some c =
    let found : get_by_text c.self.inside.tried c.args.base.now ≡ Some c.in-Some.count.now =
    sym c.get.ensures.value ∙ ap option_copied c.in-Some.is in
    subst (λ (names : Naming). AreUsed names c.args.base.now c.in-Some.count.now) c.self.view_is
    (c.self.invariant.used c.args.base.now c.in-Some.count.now found)
