-- The lists that are left decide.
use Rattle.std.proofs.Common.{drop, map}
use Rattle.schemars_plain.proofs.Words.{◌↔◌, AreApartFrom}
use Rattle.schemars_plain.proofs.names.are_apart_from.Given as goal

abbrev pub invariant-loop-list : goal.invariant-loop-list
invariant-loop-list l =
    AreApartFrom (map (λ n. n.now) l.names) (map (λ names. map (λ n. n.now) names.items) (drop l.list-index l.lists))
    ↔ AreApartFrom (map (λ n. n.now) l.names) (map (λ names. map (λ n. n.now) names.items) l.lists)
