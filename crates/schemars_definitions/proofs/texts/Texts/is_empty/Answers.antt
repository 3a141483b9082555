use Rattle.std.proofs.Common.{◌≡◌, ◌↔◌, IsTrue, subst}
use Rattle.schemars_definitions.proofs.Words.{no_members, definition_in}
use Rattle.schemars_definitions.proofs.ByName.{is_none-by_name}
use Rattle.schemars_definitions.proofs.texts.Texts.is_empty.Goals as goal

pub returns : goal.returns
returns g c = subst (λ ms. IsTrue c.is_empty.result ↔ (ms ≡ no_members)) c.self.view_is
    (is_none-by_name definition_in c.self.inside.definitions.entries c.is_empty.result c.is_empty.ensures)
