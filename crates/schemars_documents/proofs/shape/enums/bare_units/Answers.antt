use Rattle.std.proofs.Common.{map, refl}
use Rattle.schemars_documents.proofs.Words.{variant_of, bare_units, no_more}
use Rattle.schemars_documents.proofs.shape.enums.bare_units.Goals as goal

pub returns : goal.returns
returns c =
    no_more (λ xs. bare_units (map variant_of xs)) c.args.variants.now c.loop-variant.variant-index
    (map (λ n. n.now) c.loop-variant.names.items) _ c.loop-variant-test.false refl c.loop-variant.invariant
