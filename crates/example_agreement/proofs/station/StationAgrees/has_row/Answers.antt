use Rattle.std.proofs.Common.{refl, arith}
use Rattle.schemars_written.proofs.Loops.{to_fields, field_at, last_at}
use Rattle.example_agreement.proofs.station.StationAgrees.has_row.Goals as goal

pub returns-else-not-is_field-2 : goal.returns-else-not-is_field-2
returns-else-not-is_field-2 c = λ yes.
    let xs = c.in-Some-len3.field-0.now in
    to_fields c.args.types.now c.args.n _ xs c.in-Some-len3.ensures
    (field_at _ _ _ xs 0 c.first-item.result c.first-item.is (omega (arith, c.in-Some-len3.len_at_least)) (c.if-not-is_field.ensures.name refl) (c.if-not-is_field.ensures.row refl)
    (field_at _ _ _ xs 1 c.others-item.result c.others-item.is (omega (arith, c.in-Some-len3.len_at_least)) (c.if-not-is_field-2.ensures.name refl) (c.if-not-is_field-2.ensures.row refl)
    (field_at _ _ _ xs 2 c.counts-item.result c.counts-item.is (omega (arith, c.in-Some-len3.len_at_least)) (c.is_field-in-Some-len3-2.ensures.name yes) (c.is_field-in-Some-len3-2.ensures.row yes)
    (last_at xs 3 (omega (arith, c.in-Some-len3.len_below))))))
