use Rattle.std.proofs.Common.{ap, ◌∙◌}
use Rattle.schemars_schema.specs.Edits.{without}
use Rattle.schemars_definitions.proofs.texts.TextsDefinitions.remove.Goals as goal

pub invariant_of-self : goal.invariant_of-self
invariant_of-self g c = c.remove.ensures.ordered g.C.Change.made c.self.invariant

pub returns : goal.returns
returns g c = c.remove.ensures.value ∙ ap (without c.args.name.now) c.self.view_is
