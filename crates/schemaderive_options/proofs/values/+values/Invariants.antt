-- A part of a value is read with less depth than the value.
use Rattle.schemaderive_options.proofs.values.+values.Given as goal

abbrev pub decreases-push_value : goal.decreases-push_value
decreases-push_value l = l.depth

abbrev pub decreases-push_macro : goal.decreases-push_macro
decreases-push_macro l = l.depth

abbrev pub decreases-push_group : goal.decreases-push_group
decreases-push_group l = l.depth
