-- The names that are left decide.
use Rattle.std.proofs.Common.{drop, map}
use Rattle.schemars_plain.proofs.Words.{◌↔◌, field_of, AreNoNames}
use Rattle.schemars_plain.proofs.names.are_no_names.Given as goal

abbrev pub invariant-loop-name : goal.invariant-loop-name
invariant-loop-name l =
    AreNoNames (map (λ f. field_of f.now) l.fields) (map (λ n. n.now) (drop l.name-index l.names))
    ↔ AreNoNames (map (λ f. field_of f.now) l.fields) (map (λ n. n.now) l.names)
