use Rattle.schemars_shapes.proofs.Copies.{members_view-copied}
use Rattle.schemars_shapes.proofs.clone.TypeEntryClone.clone.Goals as goal

pub returns : goal.returns
returns c =
    let notes = members_view-copied c.args.self.now.notes.entries c.in_ok-clone.field-0.entries c.in_ok-clone.ensures.cases in
    record { cases = λ i. record { inline = c.args.self.now.inline; notes = notes i; shape = c.in_ok-clone-2.ensures.cases i } }
