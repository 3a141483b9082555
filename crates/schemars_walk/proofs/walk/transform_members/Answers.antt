use Rattle.schemars_walk.proofs.walk.transform_members.Goals as goal

pub returns : goal.returns
returns g c = c.walk_names.ensures
