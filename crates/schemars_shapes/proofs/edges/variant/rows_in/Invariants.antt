-- The rows so far, and those of the variants that are left.
use Rattle.std.proofs.Common.{◌≡◌, ◌++◌, map, drop}
use Rattle.schemars_shapes.proofs.Words.{of_variants, payload_rows}
use Rattle.schemars_shapes.proofs.edges.variant.rows_in.Given as goal

abbrev pub invariant-loop-variant : goal.invariant-loop-variant
invariant-loop-variant g l =
    l.rows.items ++ of_variants (payload_rows l.kind) (map g.V.AnyVariant.says (drop l.variant-index l.variants))
    ≡ of_variants (payload_rows l.kind) (map g.V.AnyVariant.says l.variants)
