use Rattle.schemars_walk.proofs.closure.FnTransformTransform.transform.Goals as goal

pub returns : goal.returns
returns g c = c.call.ensures
