use Rattle.std.proofs.Common.{ap, ◌∙◌}
use Rattle.serde_json.specs.Find.{as_bool}
use Rattle.schemars_schema.proofs.schema.Schema.as_bool.Goals as goal

pub returns : goal.returns
returns c = c.as_bool.ensures ∙ ap as_bool c.self.view_is
