-- What all members have under each keyword was found, or is in the members that are left.
use Rattle.std.proofs.Common.{◌++◌, drop}
use Rattle.schemars_parts.proofs.Words.{first_keywords, last_keywords, Fills, assembled_view, members_assembled}
use Rattle.schemars_parts.proofs.places.find_fixed.Given as goal

abbrev pub invariant-loop-key : goal.invariant-loop-key
invariant-loop-key l =
    Fills assembled_view l.found (first_keywords ++ last_keywords) (members_assembled (drop l.key-index l.key-items)) (members_assembled l.members.items)
