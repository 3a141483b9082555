use Rattle.schemars_walk.proofs.recursive.RecursiveTransformTransform.transform.Goals as goal

pub returns : goal.returns
returns g c = c.visit.ensures
