-- The variants that are left decide.
use Rattle.std.proofs.Common.{drop, map, string_bytes}
use Rattle.schemars_plain.proofs.Words.{◌↔◌, internal_variant_of, HaveContents, IsPlainContent}
use Rattle.schemars_plain.proofs.contents.are_plain_contents.Given as goal

abbrev pub invariant-loop-variant : goal.invariant-loop-variant
invariant-loop-variant l =
    HaveContents (IsPlainContent l.types) (string_bytes l.internal.tag) (map internal_variant_of (drop l.variant-index l.variant-items))
    ↔ HaveContents (IsPlainContent l.types) (string_bytes l.internal.tag) (map internal_variant_of l.variant-items)
