-- The names so far, and those of the variants that are left.
use Rattle.std.proofs.Common.{◌≡◌, ◌++◌, drop, map}
use Rattle.schemars_plain.proofs.Words.{internal_variant_of, flattened_in, part_enums, expanded_variant, all_payload_names}
use Rattle.schemars_plain.proofs.enums.add_variant_fields.Given as goal

abbrev pub invariant-loop-variant : goal.invariant-loop-variant
invariant-loop-variant l =
    map (λ n. n.now) l.names.items
    ++ all_payload_names (map (expanded_variant (flattened_in l.types) (part_enums l.types))
    (map internal_variant_of (drop l.variant-index l.variants)))
    ≡ map (λ n. n.now) l.fn.names.items
    ++ all_payload_names (map (expanded_variant (flattened_in l.types) (part_enums l.types)) (map internal_variant_of l.variants))
