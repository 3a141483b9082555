-- Built-in transforms make what their functions make.
use Rattle.std.proofs.Common.{Ok}
use Rattle.schemars_transform.proofs.Laws.{built_ins_make}
use Rattle.schemars_generate.proofs.changes.apply_built_in.Goals as goal

pub returns-in-Ok : goal.returns-in-Ok
returns-in-Ok g c =
    built_ins_make g.O.Transform.makes c.args.transforms.now.items c.apply_all.new.transforms.items c.args.schema.now c.apply_all.new.schema
    (Ok tt) c.requires c.in-Ok.ensures
