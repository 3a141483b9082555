-- The pairs that are left decide.
use Rattle.std.proofs.Common.{◌≡◌, drop, map}
use Rattle.schemars_assertions.proofs.Words.{string_bytes, matches}
use Rattle.schemars_assertions.proofs.patterns.is_listed.Given as goal

abbrev pub invariant-loop-pair : goal.invariant-loop-pair
invariant-loop-pair l =
    matches (map (λ p. (string_bytes p.0, string_bytes p.1)) (drop l.pair-index l.pairs)) l.pattern l.text
    ≡ matches (map (λ p. (string_bytes p.0, string_bytes p.1)) l.pairs) l.pattern l.text
