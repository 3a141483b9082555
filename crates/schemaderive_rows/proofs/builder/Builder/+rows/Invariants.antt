-- A part of a type is looked up with less depth than the type.
use Rattle.schemaderive_rows.proofs.builder.Builder.+rows.Given as goal

abbrev pub decreases-row_of : goal.decreases-row_of
decreases-row_of l = l.depth

abbrev pub decreases-rows_of : goal.decreases-rows_of
decreases-rows_of l = l.depth

abbrev pub decreases-row_of_path : goal.decreases-row_of_path
decreases-row_of_path l = l.depth

abbrev pub decreases-row_of_made : goal.decreases-row_of_made
decreases-row_of_made l = l.depth

abbrev pub decreases-row_of_alias : goal.decreases-row_of_alias
decreases-row_of_alias l = l.depth

abbrev pub decreases-row_of_declaration : goal.decreases-row_of_declaration
decreases-row_of_declaration l = l.depth

abbrev pub decreases-binding : goal.decreases-binding
decreases-binding l = l.depth

abbrev pub decreases-row_of_tuple : goal.decreases-row_of_tuple
decreases-row_of_tuple l = l.depth

abbrev pub decreases-row_of_array : goal.decreases-row_of_array
decreases-row_of_array l = l.depth

abbrev pub decreases-bind : goal.decreases-bind
decreases-bind l = l.depth
