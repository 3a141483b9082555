use Rattle.std.proofs.Common.{refl, arith, subst, Bool}
use Rattle.std.specs.Prelude.{codes}
use Rattle.schemars_shapes.specs.Shape.{by_tag, internal_payload_of}
use Rattle.schemars_shapes.specs.declared.variant.InternalPayload.TheVariants as inside
use Rattle.schemars_written.specs.Fits.{HasVariantAt}
use Rattle.schemars_written.proofs.Loops.{to_struct, field_at, optional_at, last_at}
use Rattle.example_agreement.specs.Orders.{TextFields}
use Rattle.example_agreement.proofs.message.has_text.Goals as goal

pub returns-then-is_field : goal.returns-then-is_field
returns-then-is_field c = λ yes.
    let xs = c.in-Some-len2.field-0.now in
    let row : (closed : Bool) × HasVariantAt c.args.types.now c.args.n (by_tag (codes "type") closed) (codes "text")
    (internal_payload_of (inside.Struct c.in-Some-Struct.fields)) =
    subst (λ p. (closed : Bool) × HasVariantAt c.args.types.now c.args.n (by_tag (codes "type") closed) (codes "text") (internal_payload_of p))
    c.in-Some-Struct.field-0-is c.in-Some-Struct.ensures in (
      row.0,
      to_struct c.args.types.now c.args.n (by_tag (codes "type") row.0) (codes "text") c.in-Some-Struct.fields row.1
          xs c.in-Some-len2.ensures (TextFields c.args.types.now)
          (field_at _ _ _ xs 0 c.body-item.result c.body-item.is (omega (arith, c.in-Some-len2.len_at_least)) (c.if-is_field.ensures.name refl) (c.if-is_field.ensures.row refl)
          (optional_at _ _ _ xs 1 c.to-item.result c.to-item.is (omega (arith, c.in-Some-len2.len_at_least)) (c.is_optional_field.ensures.name yes) (c.is_optional_field.ensures.row yes)
          (c.is_optional_field.ensures.optional yes)
          (last_at xs 2 (omega (arith, c.in-Some-len2.len_below))))),
    )
