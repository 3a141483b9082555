-- The sink has taken the text and its newline, or a beginning of them.
use Rattle.std.proofs.Common.{ap, Err}
use Rattle.schemagen_run.proofs.Vocabulary.{fault_of_writing}
use Rattle.schemagen_run.proofs.Results.{passed_on}
use Rattle.schemagen_run.proofs.Writing.{ended, stopped}
use Rattle.schemagen_run.proofs.output.write_line_of.Goals as goal

pub returns-in_err-write_text-clause-written : goal.returns-in_err-write_text-clause-written
returns-in_err-write_text-clause-written g c =
    let e = c.in_err-write_text.field-0.0 in
    let why = c.in_err-write_text.ensures in
    let r = c.from_residual.result in
    stopped _ _ _ _ _ _ e r (passed_on r (fault_of_writing e) c.from_residual.ensures.1) (λ is. why.beginning (ap Err is))
    (λ is. why.failed (ap Err is)) (λ is. absurd (why.memory (ap Err is)))

pub returns-clause-written : goal.returns-clause-written
returns-clause-written g c =
    ended _ _ _ _ _ _ _ c.end_line.result c.in_ok-write_text.ensures.written c.end_line.ensures.written c.end_line.ensures.fault
