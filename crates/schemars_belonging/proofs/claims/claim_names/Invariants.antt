-- The names so far, and those of the members that are left.
use Rattle.std.proofs.Common.{◌≡◌, ◌++◌, map, drop}
use Rattle.schemars_belonging.specs.Asked.{given_of}
use Rattle.schemars_belonging.proofs.claims.claim_names.Given as goal

abbrev pub invariant-loop-given : goal.invariant-loop-given
invariant-loop-given l =
    map (λ k. k.now) l.claimed.items ++ map (λ g. g.name) (map given_of (drop l.given-index l.list))
    ≡ map (λ k. k.now) l.fn.claimed.items ++ map (λ g. g.name) (map given_of l.list)
