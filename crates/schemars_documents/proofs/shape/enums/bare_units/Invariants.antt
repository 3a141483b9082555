-- The names so far, and those of the variants that are left.
use Rattle.std.proofs.Common.{◌≡◌, ◌++◌, map, drop}
use Rattle.schemars_documents.proofs.Words.{variant_of, bare_units}
use Rattle.schemars_documents.proofs.shape.enums.bare_units.Given as goal

abbrev pub invariant-loop-variant : goal.invariant-loop-variant
invariant-loop-variant l =
    map (λ n. n.now) l.names.items ++ bare_units (map variant_of (drop l.variant-index l.variants))
    ≡ bare_units (map variant_of l.variants)
