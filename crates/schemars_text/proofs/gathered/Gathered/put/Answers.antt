-- The bytes go into the block, or into the next one.
use Rattle.schemars_text.proofs.Becomings.{gathers}
use Rattle.schemars_text.proofs.gathered.Gathered.put.Goals as goal

pub returns-in-Ok-clause-adds : goal.returns-in-Ok-clause-adds
returns-in-Ok-clause-adds g c = λ start text h. gathers start text _ _ _ _ c.args.bytes.now _ c.in-Ok.ensures.ok h

pub returns-in-Err-clause-adds : goal.returns-in-Err-clause-adds
returns-in-Err-clause-adds g c = λ start text h. c.put_anew.ensures.adds start text (rw c.in-Err.ensures.err h)
