-- The lists that are left decide.
use Rattle.std.proofs.Common.{drop, map}
use Rattle.schemars_plain.proofs.Words.{◌↔◌, field_of, AreApart}
use Rattle.schemars_plain.proofs.names.are_apart.Given as goal

abbrev pub invariant-loop-n : goal.invariant-loop-n
invariant-loop-n l =
    AreApart (map (λ f. field_of f.now) l.fields) (map (λ names. map (λ n. n.now) names.items) (drop l.n l.others))
    ↔ AreApart (map (λ f. field_of f.now) l.fields) (map (λ names. map (λ n. n.now) names.items) l.others)
