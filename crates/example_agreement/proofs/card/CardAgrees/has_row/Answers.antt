use Rattle.std.proofs.Common.{refl, arith, map}
use Rattle.schemars_shapes.specs.Shape.{field_of}
use Rattle.schemars_written.proofs.Loops.{field_at, last_at}
use Rattle.example_agreement.proofs.card.CardAgrees.has_row.Goals as goal

pub returns-else-not-is_field-2 : goal.returns-else-not-is_field-2
returns-else-not-is_field-2 c = λ yes.
    let some = c.in-Some-len2-default in
    let xs = some.field-0-0.now in (
      map field_of xs,
      some.m,
      some.ensures,
      field_at _ _ _ xs 0 c.id-item.result c.id-item.is (omega (arith, some.len_at_least)) (c.if-not-is_field.ensures.name refl)
          (c.if-not-is_field.ensures.row refl)
          (field_at _ _ _ xs 1 c.tags-item.result c.tags-item.is (omega (arith, some.len_at_least)) (c.if-not-is_field-2.ensures.name refl)
          (c.if-not-is_field-2.ensures.row refl)
          (last_at xs 2 (omega (arith, some.len_below)))),
      c.has_row.ensures yes,
    )
