-- The members that are left say what is not yet said. The rows below are asked one step less deep.
use Rattle.std.proofs.Common.{◌≡◌, ◌+◌, ◌*◌, map, drop}
use Rattle.schemars_belonging.proofs.Words.{variant_of, options_within, members_options, said_of, said_by}
use Rattle.schemars_belonging.proofs.KeyOptions.{joined}
use Rattle.schemars_belonging.proofs.keys.+keys.Given as goal

abbrev pub decreases-row_says : goal.decreases-row_says
decreases-row_says g l = 5 * l.steps

abbrev pub decreases-member_says : goal.decreases-member_says
decreases-member_says g l = 5 * l.steps + 1

abbrev pub decreases-members_say : goal.decreases-members_say
decreases-members_say g l = 5 * l.steps + 2

abbrev pub decreases-untagged_says : goal.decreases-untagged_says
decreases-untagged_says g l = 5 * l.steps + 3

abbrev pub decreases-shape_says : goal.decreases-shape_says
decreases-shape_says g l = 5 * l.steps + 4

abbrev pub invariant-members_say-loop-variant : goal.invariant-members_say-loop-variant
invariant-members_say-loop-variant g l =
    let patterns = g.P.Patterns.reading l.patterns in
    joined (said_of l.says)
    (said_by patterns l.key (members_options (options_within l.types l.steps) (map variant_of (drop l.variant-index l.variants))))
    ≡ said_by patterns l.key (members_options (options_within l.types l.steps) (map variant_of l.variants))
