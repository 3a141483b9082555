use Rattle.std.proofs.Common.{refl, arith}
use Rattle.schemars_written.proofs.Loops.{to_fields, field_at, last_at}
use Rattle.example_agreement.proofs.note.NoteAgrees.has_row.Goals as goal

pub returns-then-is_field : goal.returns-then-is_field
returns-then-is_field c = λ yes.
    let xs = c.in-Some-len2.field-0.now in
    to_fields c.args.types.now c.args.n _ xs c.in-Some-len2.ensures
    (field_at _ _ _ xs 0 c.words-item.result c.words-item.is (omega (arith, c.in-Some-len2.len_at_least)) (c.if-is_field.ensures.name refl)
    (c.if-is_field.ensures.row refl)
    (field_at _ _ _ xs 1 c.stars-item.result c.stars-item.is (omega (arith, c.in-Some-len2.len_at_least))
    (c.is_field-then-is_field.ensures.name yes) (c.is_field-then-is_field.ensures.row yes)
    (last_at xs 2 (omega (arith, c.in-Some-len2.len_below)))))
