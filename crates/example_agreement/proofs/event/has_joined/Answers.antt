use Rattle.std.proofs.Common.{refl, arith, subst}
use Rattle.std.specs.Prelude.{codes}
use Rattle.schemars_shapes.specs.Shape.{by_name, payload_of}
use Rattle.schemars_written.specs.Fits.{HasVariantAt}
use Rattle.schemars_written.proofs.Loops.{to_struct, field_at, last_at}
use Rattle.example_agreement.specs.Events.{JoinedFields}
use Rattle.example_agreement.proofs.event.has_joined.Goals as goal

pub returns-then-is_field : goal.returns-then-is_field
returns-then-is_field c = λ yes.
    let xs = c.in-Some-len2.field-0.now in
    to_struct c.args.types.now c.args.n by_name (codes "joined") c.in-Some-Struct.fields
    (subst (λ p. HasVariantAt c.args.types.now c.args.n by_name (codes "joined") (payload_of p)) c.in-Some-Struct.field-0-is c.in-Some-Struct.ensures)
    xs c.in-Some-len2.ensures (JoinedFields c.args.types.now)
    (field_at _ _ _ xs 0 c.name-item.result c.name-item.is (omega (arith, c.in-Some-len2.len_at_least)) (c.if-is_field.ensures.name refl) (c.if-is_field.ensures.row refl)
    (field_at _ _ _ xs 1 c.age-item.result c.age-item.is (omega (arith, c.in-Some-len2.len_at_least)) (c.is_field-then-is_field.ensures.name yes) (c.is_field-then-is_field.ensures.row yes)
    (last_at xs 2 (omega (arith, c.in-Some-len2.len_below)))))
