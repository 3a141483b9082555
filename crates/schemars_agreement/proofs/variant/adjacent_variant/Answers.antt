use Rattle.std.proofs.Common.{sym, subst, ◌∙◌}
use Rattle.std.proofs.lemmas.Slice.Eq.{bytes_eq-Decides}
use Rattle.schemars_shapes.specs.Shape.{shape_of, payload_of}
use Rattle.schemars_written.specs.Fits.{HasShape}
use Rattle.schemars_written.proofs.Loops.{beside_named}
use Rattle.schemars_agreement.proofs.variant.adjacent_variant.Goals as goal

pub returns-in-Some-Adjacent : goal.returns-in-Some-Adjacent
returns-in-Some-Adjacent c =
    beside_named c.args.types.now c.args.n c.in-Some-Adjacent.x
    (subst (λ s. HasShape c.args.types.now c.args.n (shape_of s)) c.in-Some-Adjacent.field-0-is c.in-Some-Adjacent.ensures)
    c.args.tag.now c.args.content.now c.args.name.now (sym c.as_str.ensures.value ∙ (bytes_eq-Decides c.as_str.result.now c.args.tag.now).0 (sym c.if-eq.ensures))
    (sym c.as_str-then-eq.ensures.value ∙ (bytes_eq-Decides c.as_str-then-eq.result.now c.args.content.now).0 (sym c.if-eq-2.ensures))
    c.as_slice.result.now c.as_slice.ensures.value c.payload_named.result (λ p. payload_of p.now) c.payload_named.ensures
