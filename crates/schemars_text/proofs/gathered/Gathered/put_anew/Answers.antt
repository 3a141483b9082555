-- What is longer than a block is handed on at once.
use Rattle.std.proofs.Common.{◌++◌, [], refl}
use Rattle.schemars_text.proofs.Becomings.{gathers}
use Rattle.schemars_text.proofs.gathered.Gathered.put_anew.Goals as goal

pub returns-in-Ok-clause-adds : goal.returns-in-Ok-clause-adds
returns-in-Ok-clause-adds g c = λ start text h.
    let handed = c.hand-self.ensures start text (rw c.as_slice.ensures.value h) in
    gathers start text _ _ [] _ c.args.bytes.now _ (rw c.clear.ensures at c.in-Ok.ensures.ok) handed

pub returns-in-Err-clause-adds : goal.returns-in-Err-clause-adds
returns-in-Err-clause-adds g c = λ start text h.
    let handed = c.hand-self.ensures start text (rw c.as_slice.ensures.value h) in
    let longer = gathers start text _ _ [] c.args.bytes.now c.args.bytes.now _ refl handed in
    rw (c.in-Err.ensures.err, c.clear.ensures) (c.hand-self-in-Err.ensures start (text ++ c.args.bytes.now) longer)
