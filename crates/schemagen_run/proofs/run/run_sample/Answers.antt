-- The line is that of the example, and the sink has taken it, or a beginning of it.
use Rattle.std.proofs.Common.{refl}
use Rattle.schemagen_run.proofs.Vocabulary.{view, is_as_read}
use Rattle.schemagen_run.proofs.Results.{passed_on}
use Rattle.schemagen_run.proofs.Runs.{value_is_no_write, gives_sample_line}
use Rattle.schemagen_run.proofs.Writing.{no_line, line_of_given}
use Rattle.schemagen_run.proofs.run.run_sample.Goals as goal

pub returns-in_err-value-clause-output : goal.returns-in_err-value-clause-output
returns-in_err-value-clause-output g c =
    let e = c.in_err-value.field-0.0 in
    let r = c.from_residual.result in
    no_line _ _ _ _ r e _ _ (passed_on r e c.from_residual.ensures.1) (value_is_no_write e c.in_err-value.ensures.faults) refl

pub returns-clause-output : goal.returns-clause-output
returns-clause-output g c =
    let d = view c.in_ok-value.value in
    let (bytes, consumed, end, text) = c.in_ok-value.ensures.ok in
    line_of_given _ _ _ _ _ c.write_sample_line.result _ _ (λ line of Q holds.
    gives_sample_line {Q = Q} c.args.dialect d line _ _ c.in_ok-value.ensures.ok (λ _. of) holds)
    (c.write_sample_line.ensures.written (is_as_read bytes d text.1))
