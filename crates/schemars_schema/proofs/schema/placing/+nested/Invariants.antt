-- What is left of the pointer grows shorter.
use Rattle.std.proofs.Common.{length}
use Rattle.schemars_schema.proofs.schema.placing.+nested.Given as goal

abbrev pub decreases-nested : goal.decreases-nested
decreases-nested l = length l.pointer.now
