-- A value that is no object has no members.
use Rattle.std.proofs.Common.{option_map}
use Rattle.schemars_validate.proofs.Words.{view, members_view, is_taken}
use Rattle.schemars_validate.proofs.Marking.{no_member_marked}
use Rattle.schemars_validate.proofs.marks.mark_members.Goals as goal

pub returns-in-None : goal.returns-in-None
returns-in-None g c =
    no_member_marked (is_taken (g.P.Patterns.reading c.args.patterns.now) (option_map (λ s. members_view s.now.entries) c.args.schemas.now.named)
    (option_map (λ s. members_view s.now.entries) c.args.schemas.now.by_pattern) (option_map (λ s. view s.now) c.args.schemas.now.others))
    (view c.args.value.now) c.args.marks.now.items c.in-None.ensures
