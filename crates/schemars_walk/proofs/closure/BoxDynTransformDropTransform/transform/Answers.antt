use Rattle.schemars_walk.proofs.Boxed.{boxed_call}
use Rattle.schemars_walk.proofs.closure.BoxDynTransformDropTransform.transform.Goals as goal

pub returns : goal.returns
returns g c =
    record {
      inside = boxed_call
          (λ i v w. (goal.Transform-dyn g (i, v)).makes v c.args.schema.now c.transform.result w c.transform.new.schema)
          c.args.self.now c.deref_box_mut-1.result.now c.transform.new.self c.deref_box_mut-1.ensures.value c.transform.ensures;
    }
