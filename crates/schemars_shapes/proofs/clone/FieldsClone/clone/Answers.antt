use Rattle.schemars_shapes.proofs.Copies.{map-field_of-copied, map_flattened_of_copied}
use Rattle.schemars_shapes.proofs.clone.FieldsClone.clone.Goals as goal

pub returns : goal.returns
returns c =
    let list = map-field_of-copied c.args.self.now.list.items c.in_ok-clone.field-0.items c.in_ok-clone.ensures.cases.0 in
    let flatten = map_flattened_of_copied c.args.self.now.flatten.items c.in_ok-clone-2.field-0.items c.in_ok-clone-2.ensures.cases.0 in
    record { cases = λ i. record { list = list i; flatten = flatten i; closed = c.args.self.now.closed } }
