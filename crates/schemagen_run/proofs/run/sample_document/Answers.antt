-- The generator holds no definitions.
use Rattle.std.proofs.Common.{◌∙◌, ap}
use Rattle.schemagen_run.proofs.Vocabulary.{IfOk-weaker, IfErr-weaker, settings_of, transforms_of, example_of, some_own}
use Rattle.schemagen_run.proofs.Tables.{none_own}
use Rattle.schemagen_run.proofs.Samples.{sample_made, sample_wants_memory}
use Rattle.schemagen_run.proofs.run.sample_document.Goals as goal

pub returns : goal.returns
returns c =
    let g = c.new-generator.result in
    let wanted = c.in_ok-settings.ensures in
    let made = c.into_root_schema_for_value.ensures in
    let r = c.into_root_schema_for_value.result in
    let x = example_of c.args.sample.now in
    let new = c.new-generator.ensures.made in
    let these = ap transforms_of new ∙ wanted.transforms in
    let same = ap (λ y. settings_of y.settings) new ∙ wanted.settings in
    let empty = ap (λ y. y.definitions) new in
    record {
      ok = sample_made r (settings_of g.settings) g.definitions x c.args.dialect (transforms_of g) same empty these
          (λ own. IfOk-weaker r _ _ (λ d h. (h.1.built_in own, h.1.whole own)) made.made);
      only_memory = sample_wants_memory r (settings_of g.settings) g.definitions x empty
          (IfErr-weaker r _ _ (λ e h. h.1.built_in (ap some_own these ∙ none_own c.args.dialect)) made.refused);
    }
