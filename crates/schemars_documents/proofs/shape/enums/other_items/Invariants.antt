-- The items so far, and those of the variants that are left.
use Rattle.std.proofs.Common.{◌≡◌, ◌++◌, map, drop}
use Rattle.schemars_documents.proofs.Words.{variant_of, template_view, other_items}
use Rattle.schemars_documents.proofs.shape.enums.other_items.Given as goal

abbrev pub invariant-loop-variant : goal.invariant-loop-variant
invariant-loop-variant l =
    map template_view l.items.items ++ other_items l.contract (map variant_of (drop l.variant-index l.variants))
    ≡ other_items l.contract (map variant_of l.variants)
