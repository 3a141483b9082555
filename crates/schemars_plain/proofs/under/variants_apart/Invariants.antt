-- The variants that are left decide.
use Rattle.std.proofs.Common.{drop, map}
use Rattle.schemars_plain.proofs.Words.{◌↔◌, option_map, flattened_in, part_enums, expanded_variant, enum_names_at, tag_names, VariantsHaveNamesApart}
use Rattle.schemars_plain.proofs.under.variants_apart.Given as goal

abbrev pub invariant-loop-variant : goal.invariant-loop-variant
invariant-loop-variant g l =
    VariantsHaveNamesApart (enum_names_at l.types) (tag_names (option_map (λ t. t.now) l.tag))
    (map (expanded_variant (flattened_in l.types) (part_enums l.types)) (map g.V.AnyVariant.says (drop l.variant-index l.variants)))
    ↔ VariantsHaveNamesApart (enum_names_at l.types) (tag_names (option_map (λ t. t.now) l.tag))
    (map (expanded_variant (flattened_in l.types) (part_enums l.types)) (map g.V.AnyVariant.says l.variants))
