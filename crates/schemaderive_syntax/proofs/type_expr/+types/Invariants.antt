-- A part of a type is read with less depth than the type.
use Rattle.schemaderive_syntax.proofs.type_expr.+types.Given as goal

abbrev pub decreases-type_at : goal.decreases-type_at
decreases-type_at l = l.depth

abbrev pub decreases-tuple_at : goal.decreases-tuple_at
decreases-tuple_at l = l.depth

abbrev pub decreases-array_at : goal.decreases-array_at
decreases-array_at l = l.depth

abbrev pub decreases-path_at : goal.decreases-path_at
decreases-path_at l = l.depth

abbrev pub decreases-arguments_at : goal.decreases-arguments_at
decreases-arguments_at l = l.depth
