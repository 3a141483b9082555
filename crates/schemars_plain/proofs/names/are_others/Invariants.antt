-- The names that are left decide.
use Rattle.std.proofs.Common.{drop, map}
use Rattle.schemars_plain.proofs.Words.{◌↔◌, AreOthers}
use Rattle.schemars_plain.proofs.names.are_others.Given as goal

abbrev pub invariant-loop-other : goal.invariant-loop-other
invariant-loop-other l =
    AreOthers (map (λ n. n.now) l.names) (map (λ n. n.now) (drop l.other-index l.others))
    ↔ AreOthers (map (λ n. n.now) l.names) (map (λ n. n.now) l.others)
