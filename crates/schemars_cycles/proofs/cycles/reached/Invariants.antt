-- What has been met is reached, and waits or has its targets met.
use Rattle.std.proofs.Common.{◌+◌, length}
use Rattle.schemars_cycles.proofs.Words.{unmet, front_of}
use Rattle.schemars_cycles.proofs.Reaching.{IsUnderWay}
use Rattle.schemars_cycles.proofs.cycles.reached.Given as goal

abbrev pub invariant-loop-n : goal.invariant-loop-n
invariant-loop-n l = IsUnderWay l.graph l.from (front_of l.met.items l.waiting.items)

abbrev pub decreases-loop-n : goal.decreases-loop-n
decreases-loop-n l = unmet l.met.items + unmet l.met.items + length l.waiting.items
