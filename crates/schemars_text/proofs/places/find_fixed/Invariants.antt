-- What all members have under each keyword was found, or is in the members that are left.
use Rattle.std.proofs.Common.{◌++◌}
use Rattle.schemars_text.proofs.Words.{view, members_view, first_keywords, last_keywords}
use Rattle.schemars_text.proofs.FixedMembers.{Fills}
use Rattle.schemars_text.proofs.places.find_fixed.Given as goal

abbrev pub invariant-loop-key : goal.invariant-loop-key
invariant-loop-key l =
    Fills view l.found (first_keywords ++ last_keywords) (members_view l.key-iterator) (members_view l.members.entries)
