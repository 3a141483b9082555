-- The line has the text of what is written, and a refusal of the generator is told by its number.
use Rattle.std.proofs.Common.{◌≡◌, refl, inl, inr}
use Rattle.schemagen_run.proofs.Vocabulary.{IfErr-weaker, code_of, IsLineRefusal}
use Rattle.schemagen_run.specs.declared.fault.Fault.{Fault}
use Rattle.schemagen_run.specs.declared.fault.Fault.TheVariants.{Refused}
use Rattle.schemagen_run.proofs.Results.{passed_on, err_passed}
use Rattle.schemagen_run.proofs.Runs.{line_refused}
use Rattle.schemagen_run.proofs.Writing.{weaker, refused_line}
use Rattle.schemagen_run.proofs.run.write_line.Goals as goal

pub returns-in_err-output : goal.returns-in_err-output
returns-in_err-output g c =
    let e = c.in_err-output.field-0.0 in
    let r = c.from_residual.result in
    let passed = c.from_residual.ensures.1 in
    let why : (f : Fault) → f ≡ Refused (code_of e) → IsLineRefusal c.args.asked c.args.types c.args.root f =
    λ f same. line_refused c.args.asked c.args.types c.args.root e f c.in_err-output.ensures.refused same in
    record {
      written = refused_line _ _ _ r (Refused (code_of e)) _ _ (passed_on r (Refused (code_of e)) passed) (why _ refl) refl;
      refused = err_passed r passed (λ f same. inr (why f same));
    }

pub returns : goal.returns
returns g c = record {
  written = weaker _ _ c.write_output.result _ _ (λ line of. (c.in_ok-output.ensures.accepted, c.in_ok-output.ensures.ok line of))
      c.write_output.ensures.written;
  refused = IfErr-weaker c.write_output.result _ _ (λ e told. inl told) c.write_output.ensures.fault;
}
