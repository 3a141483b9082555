use Rattle.schemars_shapes.proofs.Units.{none_view}
use Rattle.schemars_plain.proofs.notes.has_no_notes.Goals as goal

pub returns : goal.returns
returns c = none_view c.is_empty.result c.args.notes.now.entries c.is_empty.ensures
