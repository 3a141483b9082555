use Rattle.std.proofs.Common.{subst, arith}
use Rattle.std.proofs.lemmas.Grind.{common_steps}
use Rattle.schemars_shapes.specs.Shape.{shape_of}
use Rattle.schemars_written.specs.Fits.{HasShape}
use Rattle.schemars_written.proofs.Loops.{has_part}
use Rattle.schemars_agreement.proofs.row.flattened_at.Goals as goal

pub returns-in-len1 : goal.returns-in-len1
returns-in-len1 c = has_part c.args.types.now c.args.n c.in-Some-Struct.fields
    (subst (λ s. HasShape c.args.types.now c.args.n (shape_of s)) c.in-Some-Struct.field-0-is c.in-Some-Struct.ensures)
    c.as_slice.result.now c.as_slice.ensures.value (grind (arith, common_steps, c.in-len1))
    c.as_slice-in-len1.result.now c.as_slice-in-len1.ensures.value _
