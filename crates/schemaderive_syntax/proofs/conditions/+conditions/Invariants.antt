-- A condition in a group is read with less depth than the group.
use Rattle.schemaderive_syntax.proofs.conditions.+conditions.Given as goal

abbrev pub decreases-one_holds : goal.decreases-one_holds
decreases-one_holds l = l.depth

abbrev pub decreases-group_holds : goal.decreases-group_holds
decreases-group_holds l = l.depth
