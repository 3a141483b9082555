-- The text of the root document of a fresh generator is that of the row.
use Rattle.std.proofs.Common.{◌∙◌, ap, Ok, Err}
use Rattle.schemars_generate.specs.declared.error.GenerateError.{GenerateError}
use Rattle.schemagen_run.proofs.Vocabulary.{state, transforms_of, some_own}
use Rattle.schemagen_run.proofs.Results.{ok_at_err, err_passed}
use Rattle.schemagen_run.proofs.Tables.{none_own, is_document, is_refusal}
use Rattle.schemagen_run.proofs.Outputs.{text_is_output}
use Rattle.schemagen_run.proofs.run.text_of.Goals as goal

pub returns-in_err-text : goal.returns-in_err-text
returns-in_err-text c =
    let e = c.in_err-text.field-0.0 in
    let why = c.in_err-text.ensures in
    let r = c.from_residual.result in
    let passed = c.from_residual.ensures.1 in
    let g = c.args.generator in
    let told = c.requires.fresh in
    let none = ap some_own told.transforms ∙ none_own c.args.asked.dialect in
    record {
      ok = ok_at_err _ _ r passed;
      refused = err_passed r passed (λ f same. rw same
          (is_refusal (Err e) (state g) c.args.asked g.rows c.args.root c.requires.draft told.table told.accepted told.fresh
          why.unknown (why.refused.1.built_in none) (λ plain path known. why.refused.1.only_memory none plain path known)));
    }

pub returns : goal.returns
returns c =
    let s = c.in_ok-text.text in
    let told = c.in_ok-text.ensures.text in
    let document = told.document in
    let g = c.args.generator in
    let fresh = c.requires.fresh in
    record {
      ok = text_is_output c.args.asked g.rows c.args.root document s c.requires.draft
          (is_document {E = GenerateError} (Ok document) (state g) c.args.asked g.rows c.args.root (transforms_of g) fresh.fresh
          fresh.transforms (λ own. (told.made.built_in own, told.made.whole own))) told.is;
      refused = tt;
    }
