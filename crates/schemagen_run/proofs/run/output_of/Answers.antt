-- The table suits the generator.
use Rattle.std.proofs.Common.{ap, subst}
use Rattle.std.proofs.Common.{IfOk, IfErr}
use Rattle.schemagen_run.proofs.Vocabulary.{State, IsRefusal, IsOutputOf}
use Rattle.schemagen_run.proofs.Results.{ok_at_err, err_passed, so_at_ok}
use Rattle.schemagen_run.proofs.Tables.{faulty_refusal}
use Rattle.schemagen_run.proofs.Outputs.{is_fresh}
use Rattle.schemagen_run.proofs.run.output_of.Goals as goal

pub returns-in_err-generator : goal.returns-in_err-generator
returns-in_err-generator c =
    let e = c.in_err-generator.field-0.0 in
    let why = c.in_err-generator.ensures in
    let r = c.from_residual.result in
    let passed = c.from_residual.ensures.1 in
    record {
      ok = ok_at_err _ _ r passed;
      accepted = ok_at_err _ _ r passed;
      refused = err_passed r passed (λ f same. rw same
          (faulty_refusal c.args.asked c.args.types c.args.root e why.refused why.only_memory));
    }

pub generated-requires : goal.generated-requires
generated-requires c =
    let told = c.in_ok-generator.ensures in
    is_fresh c.args.asked c.in_ok-generator.generator c.args.types c.args.root told.fresh told.transforms c.requires told.accepted

pub returns : goal.returns
returns c =
    let told = c.in_ok-generator.ensures in
    let r = c.generated.result in
    let rows = ap (λ (s : State). s.rows) told.fresh in
    record {
      ok = subst (λ rs. IfOk r (IsOutputOf c.args.asked rs c.args.root)) rows c.generated.ensures.ok;
      accepted = so_at_ok r told.accepted;
      refused = subst (λ rs. IfErr r (IsRefusal c.args.asked rs c.args.root)) rows c.generated.ensures.refused;
    }
