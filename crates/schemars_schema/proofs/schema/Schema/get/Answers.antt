use Rattle.std.proofs.Common.{ap, ◌∙◌}
use Rattle.serde_json.specs.Find.{get}
use Rattle.schemars_schema.proofs.schema.Schema.get.Goals as goal

pub returns : goal.returns
returns c = c.get.ensures ∙ ap (get c.args.key.now) c.self.view_is
