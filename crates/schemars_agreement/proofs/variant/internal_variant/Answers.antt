use Rattle.std.proofs.Common.{sym, subst, ◌∙◌}
use Rattle.std.proofs.lemmas.Slice.Eq.{bytes_eq-Decides}
use Rattle.schemars_shapes.specs.Shape.{shape_of, internal_payload_of}
use Rattle.schemars_written.specs.Fits.{HasShape}
use Rattle.schemars_written.proofs.Loops.{inside_named}
use Rattle.schemars_agreement.proofs.variant.internal_variant.Goals as goal

pub returns-in-Some-Internal : goal.returns-in-Some-Internal
returns-in-Some-Internal c =
    inside_named c.args.types.now c.args.n c.in-Some-Internal.x
    (subst (λ s. HasShape c.args.types.now c.args.n (shape_of s)) c.in-Some-Internal.field-0-is c.in-Some-Internal.ensures)
    c.args.tag.now c.args.name.now (sym c.as_str.ensures.value ∙ (bytes_eq-Decides c.as_str.result.now c.args.tag.now).0 (sym c.if-eq.ensures))
    c.as_slice.result.now c.as_slice.ensures.value c.inside_named.result (λ p. internal_payload_of p.now) c.inside_named.ensures
