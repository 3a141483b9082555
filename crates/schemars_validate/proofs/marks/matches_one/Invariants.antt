-- The patterns that are left decide.
use Rattle.std.proofs.Common.{◌≡◌}
use Rattle.schemars_validate.proofs.Words.{members_view, matches_one}
use Rattle.schemars_validate.proofs.marks.matches_one.Given as goal

abbrev pub invariant-loop-pattern : goal.invariant-loop-pattern
invariant-loop-pattern g l =
    matches_one (g.P.Patterns.reading l.patterns) (members_view l.pattern-iterator) l.key
    ≡ matches_one (g.P.Patterns.reading l.patterns) (members_view l.schemas.entries) l.key
