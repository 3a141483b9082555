-- The items so far, and those of the variants that are left.
use Rattle.std.proofs.Common.{◌≡◌, ◌++◌, map, drop}
use Rattle.schemars_documents.proofs.Words.{internal_variant_of, template_view, internal_item}
use Rattle.schemars_documents.proofs.shape.tagged.internal_items.Given as goal

abbrev pub invariant-loop-variant : goal.invariant-loop-variant
invariant-loop-variant l =
    map template_view l.items.items
    ++ map (internal_item l.contract l.tag l.closed) (map internal_variant_of (drop l.variant-index l.variants))
    ≡ map (internal_item l.contract l.tag l.closed) (map internal_variant_of l.variants)
