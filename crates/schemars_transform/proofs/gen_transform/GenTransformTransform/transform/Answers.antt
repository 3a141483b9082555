use Rattle.std.proofs.Common.{refl, ap}
use Rattle.schemars_transform.specs.declared.gen_transform.GenTransform.TheVariants.{SetSingleExample}
use Rattle.schemars_transform.proofs.gen_transform.GenTransformTransform.transform.Goals as goal

pub returns-in-SetSingleExample : goal.returns-in-SetSingleExample
returns-in-SetSingleExample g c =
    rw c.in-SetSingleExample.is (
      ap SetSingleExample c.transform-in-SetSingleExample.ensures.0,
      c.transform-in-SetSingleExample.ensures.1,
    )

pub returns-in-Own : goal.returns-in-Own
returns-in-Own g c = rw c.in-Own.is (c.transform-in-Own.new.self, c.transform-in-Own.ensures, refl)
