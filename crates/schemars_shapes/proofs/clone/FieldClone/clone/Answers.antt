use Rattle.schemars_shapes.proofs.Copies.{members_view-copied}
use Rattle.schemars_shapes.proofs.clone.FieldClone.clone.Goals as goal

pub returns : goal.returns
returns c =
    let notes = members_view-copied c.args.self.now.notes.entries c.in_ok-clone-2.field-0.entries c.in_ok-clone-2.ensures.cases in
    record {
      cases = λ i. record {
        name = c.in_ok-clone.ensures.cases i;
        ty = c.args.self.now.ty;
        required = record { deserialize = c.args.self.now.required.deserialize; serialize = c.args.self.now.required.serialize };
        notes =
            notes i;
      };
    }
