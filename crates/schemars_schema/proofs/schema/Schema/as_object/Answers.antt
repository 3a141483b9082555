use Rattle.std.proofs.Common.{ap, ◌∙◌}
use Rattle.serde_json.specs.Find.{as_object}
use Rattle.schemars_schema.proofs.schema.Schema.as_object.Goals as goal

pub returns : goal.returns
returns c = c.as_object.ensures ∙ ap as_object c.self.view_is
