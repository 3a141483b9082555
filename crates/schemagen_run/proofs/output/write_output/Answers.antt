-- What is told of the line that was written, or was not, is told of the answer that has the output.
use Rattle.schemagen_run.proofs.Results.{passed_on}
use Rattle.schemagen_run.proofs.Writing.{as_refused, as_written}
use Rattle.schemagen_run.proofs.output.write_output.Goals as goal

pub returns-in_err-write_line_of-clause-written : goal.returns-in_err-write_line_of-clause-written
returns-in_err-write_line_of-clause-written g c =
    let e = c.in_err-write_line_of.field-0.0 in
    let r = c.from_residual.result in
    as_refused r e _ _ (passed_on r e c.from_residual.ensures.1) c.in_err-write_line_of.ensures.written

pub returns-clause-written : goal.returns-clause-written
returns-clause-written g c = as_written _ _ _ _ c.in_ok-write_line_of.ensures.written
