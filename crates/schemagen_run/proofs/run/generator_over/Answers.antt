-- The settings are those that are asked for, and the table is the one that is given.
use Rattle.std.proofs.Common.{◌∙◌, ap, inl}
use Rattle.schemagen_run.proofs.Vocabulary.{IfOk-weaker, IfErr-weaker, transforms_of}
use Rattle.schemagen_run.proofs.Results.{ok_at_err, err_passed}
use Rattle.schemagen_run.proofs.Tables.{fresh_of}
use Rattle.schemagen_run.proofs.run.generator_over.Goals as goal

pub returns-in_err-settings : goal.returns-in_err-settings
returns-in_err-settings c =
    let r = c.from_residual.result in
    let passed = c.from_residual.ensures.1 in
    record {
      fresh = ok_at_err _ _ r passed;
      transforms = ok_at_err _ _ r passed;
      accepted = ok_at_err _ _ r passed;
      refused = err_passed r passed (λ f same. inl same);
      only_memory = λ _. err_passed r passed (λ f same. same);
    }

pub returns : goal.returns
returns c =
    let r = c.with_types.result in
    let wanted = c.in_ok-settings.ensures in
    let told = c.with_types.ensures in
    record {
      fresh = IfOk-weaker r _ _ (λ g made. fresh_of g c.in_ok-settings.settings c.args.asked c.args.types wanted.settings made) told.made;
      transforms = IfOk-weaker r _ _ (λ g made. ap transforms_of made ∙ wanted.transforms) told.made;
      accepted = told.accepted;
      refused = IfErr-weaker r _ _ (λ e h. h.fault) told.refused;
      only_memory = λ accepted. IfErr-weaker r _ _ (λ e h. h.only_memory accepted) told.refused;
    }
