-- The text goes to the sink, all of it or a beginning.
use Rattle.std.proofs.Common.{refl}
use Rattle.schemars_text.proofs.Becomings.{all_sent, some_sent}
use Rattle.schemars_text.proofs.writing.Document.send.Goals as goal

pub returns-then-write_to-clause-written : goal.returns-then-write_to-clause-written
returns-then-write_to-clause-written g c =
    let (text, is, done) = rw c.if-write_to.true at c.write_to.ensures in
    all_sent _ _ text _ _ _ is done

pub returns-else-write_to-clause-beginning : goal.returns-else-write_to-clause-beginning
returns-else-write_to-clause-beginning g c = λ _.
    let (text, is, broken) = rw c.if-write_to.false at c.write_to.ensures in
    some_sent _ _ text _ _ _ is broken

pub returns-else-write_to-clause-failed : goal.returns-else-write_to-clause-failed
returns-else-write_to-clause-failed g c = λ _.
    let (text, is, broken) = rw c.if-write_to.false at c.write_to.ensures in
    broken.why refl
