-- Built-in transforms make what their functions make.
use Rattle.std.proofs.Common.{Ok}
use Rattle.schemars_transform.proofs.Laws.{built_ins_make}
use Rattle.schemars_generate.proofs.changes.apply_where_needed.Goals as goal

pub returns-in-Ok : goal.returns-in-Ok
returns-in-Ok g c =
    built_ins_make g.O.Transform.makes c.args.transforms.now.items c.apply_needed.new.transforms.items c.args.schema.now c.apply_needed.new.schema
    (Ok tt) c.requires.own c.in-Ok.ensures
