-- The patterns so far, and the others of those that are left.
use Rattle.std.proofs.Common.{◌≡◌, ◌∷◌, ◌++◌, map, filter, not, drop}
use Rattle.std.specs.Prelude.{bytes_eq}
use Rattle.schemars_documents.proofs.shape.keyed.with_first.Given as goal

abbrev pub invariant-loop-pattern : goal.invariant-loop-pattern
invariant-loop-pattern l =
    map (λ t. t.now) l.all.items
    ++ filter (λ p. not (bytes_eq p l.first)) (map (λ t. t.now) (drop l.pattern-index l.patterns))
    ≡ l.first ∷ filter (λ p. not (bytes_eq p l.first)) (map (λ t. t.now) l.patterns)
