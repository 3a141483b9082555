-- What is left of the pointer grows shorter.
use Rattle.std.proofs.Common.{length}
use Rattle.schemars_schema.proofs.schema.placing.+place.Given as goal

abbrev pub decreases-place : goal.decreases-place
decreases-place l = length l.pointer.now
