-- The variants that are left decide.
use Rattle.std.proofs.Common.{drop, map, string_bytes}
use Rattle.schemars_plain.proofs.Words.{◌↔◌, internal_variant_of, HaveContents, IsNoContent}
use Rattle.schemars_plain.proofs.contents.has_no_newtypes.Given as goal

abbrev pub invariant-loop-variant : goal.invariant-loop-variant
invariant-loop-variant l =
    HaveContents IsNoContent (string_bytes l.internal.tag) (map internal_variant_of (drop l.variant-index l.variant-items))
    ↔ HaveContents IsNoContent (string_bytes l.internal.tag) (map internal_variant_of l.variant-items)
