-- The rows before have their targets.
use Rattle.schemars_types.specs.LaterRows.{HasTargets}
use Rattle.schemars_types.specs.EdgeKind.{targets_from}
use Rattle.schemars_types.proofs.check.faults.graph.Given as goal

abbrev pub invariant-loop-n : goal.invariant-loop-n
invariant-loop-n l = HasTargets (targets_from l.kind l.from l.types) l.n l.graph.items
