-- Memory is all that the document may want, and its line has its text.
use Rattle.std.proofs.Common.{refl, ap, inr, ◌∙◌, Err}
use Rattle.schemagen_run.proofs.Vocabulary.{code_of}
use Rattle.schemagen_run.specs.declared.fault.Fault.TheVariants.{Refused}
use Rattle.schemars_generate.specs.declared.error.TheConstants.{OUT_OF_MEMORY}
use Rattle.schemagen_run.proofs.Results.{passed_on, err_passed}
use Rattle.schemagen_run.proofs.Writing.{weaker, unwritten}
use Rattle.schemagen_run.proofs.run.write_example.Goals as goal

pub returns-in_err-document : goal.returns-in_err-document
returns-in_err-document g c =
    let e = c.in_err-document.field-0.0 in
    let r = c.from_residual.result in
    let passed = c.from_residual.ensures.1 in
    let memory = c.in_err-document.ensures.only_memory in
    record {
      written = unwritten _ _ _ r (Refused OUT_OF_MEMORY) _ _ (passed_on r (Refused (code_of e)) passed
          ∙ ap (λ d. Err (Refused (code_of d))) memory) (λ is. cc) refl;
      faults = err_passed r passed (λ f same. inr (same ∙ ap (λ d. Refused (code_of d)) memory));
    }

pub returns-clause-written : goal.returns-clause-written
returns-clause-written g c =
    weaker _ _ c.write_output.result _ _ (λ line of. (_, c.in_ok-document.ensures.ok, of)) c.write_output.ensures.written
