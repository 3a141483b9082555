use Rattle.schemars_build.proofs.pending.Pending.extend.Goals as goal

pub invariant_of-self : goal.invariant_of-self
invariant_of-self c = λ i n at. c.extend.ensures.same n i (c.self.invariant i n at)
