-- None begins before what is left.
use Rattle.std.proofs.Common.{◌≡◌, length}
use Rattle.schemars_schema.specs.Encoding.{has_escape}
use Rattle.schemars_schema.proofs.encoding.has_escape.Given as goal

abbrev pub invariant-loop-rest : goal.invariant-loop-rest
invariant-loop-rest l = has_escape l.rest ≡ has_escape l.bytes

abbrev pub decreases-loop-rest : goal.decreases-loop-rest
decreases-loop-rest l = length l.rest
