-- The names before differ.
use Rattle.std.proofs.Common.{map, take}
use Rattle.schemars_shapes.proofs.Words.{IsDistinct, bytes_eq}
use Rattle.schemars_shapes.proofs.FieldRows.{now_of}
use Rattle.schemars_shapes.proofs.edges.names.first_of_few.Given as goal

abbrev pub invariant-loop-place : goal.invariant-loop-place
invariant-loop-place l = IsDistinct bytes_eq (map now_of (take l.place l.names))
