-- The names before differ, and are those in the set.
use Rattle.schemars_shapes.proofs.FieldRows.{AreMet}
use Rattle.schemars_shapes.proofs.edges.names.first_of_many.Given as goal

abbrev pub invariant-loop-name : goal.invariant-loop-name
invariant-loop-name l = AreMet l.names l.name-index l.met
