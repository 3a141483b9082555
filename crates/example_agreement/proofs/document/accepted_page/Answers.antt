use Rattle.std.proofs.Common.{◌≡◌, [], ap, ◌∙◌, subst, IfOk}
use Rattle.serde_json.specs.View.{view}
use Rattle.schemars_headline.specs.Drafts.{Draft2020_12}
use Rattle.schemars_headline.specs.State.{Settings, stripped, settings2020_12}
use Rattle.schemars_types.specs.declared.contract.Contract.TheVariants.{Serialize}
use Rattle.schemars_generate.specs.Generator.{settings_of}
use Rattle.schemars_written.specs.Readings.{AnyReading}
use Rattle.schemars_accepted.specs.Rooted.{AcceptsWritten}
use Rattle.schemars_accepted.proofs.Drafts.{written_2020_12}
use Rattle.example_agreement.proofs.document.accepted_page.Goals as goal

pub returns : goal.returns
returns c =
    let settings = c.for_serialize-settings.result in
    let is : settings_of settings ≡ record settings2020_12 { contract = Serialize } =
    c.for_serialize-settings.ensures.settings ∙ ap (λ (s : Settings). record s { contract = Serialize }) c.draft2020_12.ensures.settings in
    let none : settings.transforms.items ≡ [] =
    ap (λ (t : _). t.items) c.for_serialize-settings.ensures.transforms ∙ c.draft2020_12.ensures.transforms in
    subst (λ (s : Settings). IfOk c.to_accepted_document.result (λ r. AcceptsWritten AnyReading Draft2020_12 (stripped s.definitions_path) r.0 (view r.1))) is
    (c.to_accepted_document.ensures.accepted Draft2020_12 (written_2020_12 settings is none))
