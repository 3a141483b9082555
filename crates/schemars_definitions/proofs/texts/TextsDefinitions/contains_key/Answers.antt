use Rattle.std.proofs.Common.{ap, ◌∙◌, is_some}
use Rattle.serde_json.specs.Find.{get_member}
use Rattle.schemars_definitions.proofs.texts.TextsDefinitions.contains_key.Goals as goal

pub returns : goal.returns
returns g c = c.has_name.ensures ∙ ap (λ ms. is_some (get_member c.args.name.now ms)) c.self.view_is
