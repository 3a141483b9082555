-- A group is read with less depth than what is around it.
use Rattle.schemaderive_syntax.proofs.uses.+uses.Given as goal

abbrev pub decreases-tree_at : goal.decreases-tree_at
decreases-tree_at l = l.depth

abbrev pub decreases-group_at : goal.decreases-group_at
decreases-group_at l = l.depth
