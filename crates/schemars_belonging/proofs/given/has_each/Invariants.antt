-- What is left of the list decides.
use Rattle.std.proofs.Common.{◌≡◌, drop, map}
use Rattle.schemars_belonging.proofs.Words.{members_view, given_of, has_each_given}
use Rattle.schemars_belonging.proofs.given.has_each.Given as goal

abbrev pub invariant-loop-given : goal.invariant-loop-given
invariant-loop-given l =
    has_each_given (map given_of (drop l.given-index l.list)) (members_view l.members.entries)
    ≡ has_each_given (map given_of l.list) (members_view l.members.entries)
