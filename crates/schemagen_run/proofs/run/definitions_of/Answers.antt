-- The text of the definitions that a fresh generator takes is that of the row.
use Rattle.std.proofs.Common.{◌∙◌, ap, Err}
use Rattle.schemagen_run.proofs.Vocabulary.{held_transforms, state, some_own}
use Rattle.schemagen_run.proofs.Results.{ok_at_err, err_passed}
use Rattle.schemagen_run.proofs.Tables.{none_own, memory_refusal, definitions_refusal, are_definitions, root_is_within}
use Rattle.schemagen_run.proofs.Outputs.{definitions_are_output}
use Rattle.schemagen_run.proofs.run.definitions_of.Goals as goal

pub returns-in_err-text : goal.returns-in_err-text
returns-in_err-text c =
    let g = c.args.generator in
    let told = c.requires.fresh in
    let r = c.from_residual.result in
    let passed = c.from_residual.ensures.1 in
    let why = c.in_err-text.ensures in
    let none = ap some_own told.transforms ∙ none_own c.args.asked.dialect in
    let memory = definitions_refusal (state g) c.args.root (held_transforms g) _ c.in_err-text.field-0.0
    (root_is_within g.rows c.args.root told.table) none why.refused (λ is. why.unknown.0 (ap Err is)) in
    record {
      ok = ok_at_err _ _ r passed;
      refused = err_passed r passed (λ f same. memory_refusal c.args.asked g.rows c.args.root f (same ∙ memory));
    }

pub returns : goal.returns
returns c =
    let g = c.args.generator in
    let told = c.requires.fresh in
    let made = c.in_ok-text.ensures.text in
    let none = ap some_own told.transforms ∙ none_own c.args.asked.dialect in
    record {
      ok = definitions_are_output c.args.asked g.rows c.args.root made.taken c.in_ok-text.text c.requires.openapi3
          (are_definitions (state g) c.args.asked g.rows c.args.root _ made.taken c.requires.openapi3 told.fresh told.transforms (
            made.new,
            (
              made.part.schema,
              made.part.subschema.is_part,
              made.part.rest,
              made.part.subschema.answer.adds,
              made.part.keeps.own,
              made.part.subschema.answer.is.reached tt,
              made.transformed.built_in none,
            ),
            (λ is. (made.transformed.openapi3 is).1),
            made.transformed.whole none,
          )) made.is;
      refused = tt;
    }
