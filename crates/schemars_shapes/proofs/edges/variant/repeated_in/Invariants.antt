-- No name occurs twice among the variants, nor among the fields of one before; what is repeated behind is so in all.
use Rattle.std.proofs.Common.{map, drop}
use Rattle.schemars_shapes.proofs.Words.{bytes_eq, IsDistinct, Text, payload_names, AreDistinctLists, IsFirstRepeated}
use Rattle.schemars_shapes.proofs.edges.variant.repeated_in.Given as goal

abbrev pub invariant-loop-variant : goal.invariant-loop-variant
invariant-loop-variant g l =
    IsDistinct bytes_eq (map (λ x. x.name) (map g.V.AnyVariant.says l.variants))
    × (AreDistinctLists (map (λ x. payload_names x.payload) (map g.V.AnyVariant.says (drop l.variant-index l.variants)))
    → AreDistinctLists (map (λ x. payload_names x.payload) (map g.V.AnyVariant.says l.variants)))
    × ((name : Text) → IsFirstRepeated (map (λ x. payload_names x.payload) (map g.V.AnyVariant.says (drop l.variant-index l.variants))) name
    → IsFirstRepeated (map (λ x. payload_names x.payload) (map g.V.AnyVariant.says l.variants)) name)
