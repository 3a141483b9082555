use Rattle.serde_json.proofs.Views.{view-Object}
use Rattle.schemars_schema.proofs.schema.SchemaFromMapStringValue.from.Goals as goal

pub returns : goal.returns
returns c = view-Object c.args.members
