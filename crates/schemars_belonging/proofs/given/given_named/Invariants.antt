-- What is left of the list decides.
use Rattle.std.proofs.Common.{◌≡◌, drop, map}
use Rattle.schemars_belonging.specs.Asked.{given_of, given_named}
use Rattle.schemars_belonging.proofs.given.given_named.Given as goal

abbrev pub invariant-loop-given : goal.invariant-loop-given
invariant-loop-given l = given_named (map given_of (drop l.given-index l.list)) l.key ≡ given_named (map given_of l.list) l.key
