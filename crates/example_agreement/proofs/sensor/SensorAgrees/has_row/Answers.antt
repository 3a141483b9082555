use Rattle.std.proofs.Common.{refl, arith}
use Rattle.schemars_written.proofs.Loops.{to_fields, field_at, last_at}
use Rattle.example_agreement.proofs.sensor.SensorAgrees.has_row.Goals as goal

pub returns-else-not-is_field-5 : goal.returns-else-not-is_field-5
returns-else-not-is_field-5 c = λ yes.
    let xs = c.in-Some-len6.field-0.now in
    to_fields c.args.types.now c.args.n _ xs c.in-Some-len6.ensures
    (field_at _ _ _ xs 0 c.id-item.result c.id-item.is (omega (arith, c.in-Some-len6.len_at_least)) (c.if-not-is_field.ensures.name refl) (c.if-not-is_field.ensures.row refl)
    (field_at _ _ _ xs 1 c.label-item.result c.label-item.is (omega (arith, c.in-Some-len6.len_at_least)) (c.if-not-is_field-2.ensures.name refl) (c.if-not-is_field-2.ensures.row refl)
    (field_at _ _ _ xs 2 c.on-item.result c.on-item.is (omega (arith, c.in-Some-len6.len_at_least)) (c.if-not-is_field-3.ensures.name refl) (c.if-not-is_field-3.ensures.row refl)
    (field_at _ _ _ xs 3 c.tags-item.result c.tags-item.is (omega (arith, c.in-Some-len6.len_at_least)) (c.if-not-is_field-4.ensures.name refl) (c.if-not-is_field-4.ensures.row refl)
    (field_at _ _ _ xs 4 c.range-item.result c.range-item.is (omega (arith, c.in-Some-len6.len_at_least)) (c.if-not-is_field-5.ensures.name refl) (c.if-not-is_field-5.ensures.row refl)
    (field_at _ _ _ xs 5 c.limit-item.result c.limit-item.is (omega (arith, c.in-Some-len6.len_at_least)) (c.is_field-in-Some-len6-5.ensures.name yes) (c.is_field-in-Some-len6-5.ensures.row yes)
    (last_at xs 6 (omega (arith, c.in-Some-len6.len_below)))))))))
