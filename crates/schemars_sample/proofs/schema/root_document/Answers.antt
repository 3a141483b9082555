use Rattle.std.proofs.Common.{rules, subst, sym}
use Rattle.serde_json.specs.declared.value.Value.{the_lemmas}
use Rattle.schemars_sample.proofs.Words.{AcceptsExample, example_of}
use Rattle.schemars_sample.proofs.Accepting.{root_accepts}
use Rattle.schemars_sample.proofs.schema.root_document.Goals as goal

pub returns-clause-document : goal.returns-clause-document
returns-clause-document c = search (rules, the_lemmas)

pub returns-clause-accepts : goal.returns-clause-accepts
returns-clause-accepts c =
    let x = example_of c.args.sample.now in
    subst (AcceptsExample x) (sym (returns-clause-document c)) (root_accepts _ x)
