use Rattle.std.proofs.Common.{arith, sym, ◌∙◌}
use Rattle.std.proofs.lemmas.Grind.{common_steps}
use Rattle.std.proofs.lemmas.Slice.Eq.{bytes_eq-Decides}
use Rattle.schemars_written.proofs.Loops.{variant_at}
use Rattle.schemars_agreement.proofs.variant.payload_named.Goals as goal

pub returns-then-eq : goal.returns-then-eq
returns-then-eq c =
    variant_at c.args.name.now c.args.variants.now c.loop-variant.variant-index c.variant-item.result c.variant-item.is
    (grind (arith, common_steps, c.loop-variant-test.true, c.loop-variant.auto.variant-index-end))
    (sym c.as_str.ensures.value ∙ (bytes_eq-Decides c.as_str.result.now c.args.name.now).0 (sym c.if-eq.ensures))
