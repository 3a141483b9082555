use Rattle.std.proofs.Common.{refl, arith}
use Rattle.schemars_written.proofs.Loops.{to_fields, field_at, optional_at, last_at}
use Rattle.example_agreement.proofs.page.PageAgrees.has_row.Goals as goal

pub returns-then-is_field : goal.returns-then-is_field
returns-then-is_field c = λ yes.
    let xs = c.in-Some-len2.field-0.now in
    to_fields c.args.types.now c.args.n _ xs c.in-Some-len2.ensures
    (field_at _ _ _ xs 0 c.title-item.result c.title-item.is (omega (arith, c.in-Some-len2.len_at_least)) (c.if-is_field.ensures.name refl) (c.if-is_field.ensures.row refl)
    (optional_at _ _ _ xs 1 c.note-item.result c.note-item.is (omega (arith, c.in-Some-len2.len_at_least)) (c.is_optional_field.ensures.name yes) (c.is_optional_field.ensures.row yes)
    (c.is_optional_field.ensures.optional yes)
    (last_at xs 2 (omega (arith, c.in-Some-len2.len_below)))))
