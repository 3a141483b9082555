use Rattle.schemars_shapes.proofs.Copies.{members_view-copied}
use Rattle.schemars_shapes.proofs.clone.InternalVariantClone.clone.Goals as goal

pub returns : goal.returns
returns c =
    let notes = members_view-copied c.args.self.now.notes.entries c.in_ok-clone-2.field-0.entries c.in_ok-clone-2.ensures.cases in
    record {
      cases = λ i. record { name = c.in_ok-clone.ensures.cases i; payload = c.in_ok-clone-3.ensures.cases i; notes = notes i };
    }
