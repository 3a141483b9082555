use Rattle.std.proofs.Common.{◌≡◌, ◌++◌, map}
use Rattle.schemars_walk.proofs.Words.{members_view, place_meant, member_places}
use Rattle.schemars_walk.proofs.rewrite.places_in.Given as goal

abbrev pub invariant-loop-key : goal.invariant-loop-key
invariant-loop-key g l = map place_meant l.places.items ++ member_places (g.R.Rule.rules.place l.rule) (members_view l.key-iterator)
    ≡ member_places (g.R.Rule.rules.place l.rule) (members_view l.fn.members.entries)
