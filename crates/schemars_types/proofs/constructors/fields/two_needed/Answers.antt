use Rattle.std.proofs.Common.{◌≡◌, ◌∙◌, [], ◌∷◌, false, map, ap}
use Rattle.schemars_shapes.specs.Shape.{field_of, flattened_of, needed}
use Rattle.schemars_types.proofs.constructors.fields.two_needed.Goals as goal

pub returns : goal.returns
returns c =
    let list : map field_of c.in_ok-vec.field-0.items
    ≡ needed c.args.first.now c.args.of_first ∷ needed c.args.second.now c.args.of_second ∷ [] =
    ap (map field_of) c.in_ok-vec.ensures.items ∙ (λ i. c.in_ok-first.ensures i ∷ c.in_ok-second.ensures i ∷ []) in
    λ i. record { list = list i; flatten = map flattened_of (c.new.ensures.items i); closed = false }
