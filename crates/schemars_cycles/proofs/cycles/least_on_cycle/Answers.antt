use Rattle.std.proofs.Common.{arith}
use Rattle.schemars_cycles.proofs.GraphLemmas.{free_from_falls, walk_within}
use Rattle.schemars_cycles.proofs.cycles.least_on_cycle.Goals as goal

pub returns-then-falls : goal.returns-then-falls
returns-then-falls c = free_from_falls c.args.graph.now c.deref.result.now c.if-falls.ensures

pub returns : goal.returns
returns c = λ n cycle. let below = walk_within c.args.graph.now n n cycle in c.loop-n.invariant n (omega arith) cycle
