use Rattle.std.proofs.Common.{◌≡◌, refl, ap, ◌∙◌}
use Rattle.schemars_headline.specs.State.{Settings}
use Rattle.schemars_types.specs.declared.contract.Contract.TheVariants.{Serialize}
use Rattle.schemars_generate.specs.Generator.{settings_of}
use Rattle.schemars_generate.specs.Settings.{settings_openapi3, transforms_openapi3}
use Rattle.schemars_accepted.proofs.Drafts.{written_openapi3}
use Rattle.example_agreement.proofs.components.accepted_components.Goals as goal

pub returns : goal.returns
returns c =
    let settings = c.for_serialize-settings.result in
    let is : settings_of settings ≡ record settings_openapi3 { contract = Serialize } =
    c.for_serialize-settings.ensures.settings ∙ ap (λ (s : Settings). record s { contract = Serialize }) c.in-Ok.ensures.settings in
    let some : settings.transforms.items ≡ transforms_openapi3 =
    ap (λ (t : _). t.items) c.for_serialize-settings.ensures.transforms ∙ c.in-Ok.ensures.transforms in
    c.to_accepted_components.ensures.accepted (written_openapi3 settings is some) (ap (λ (s : Settings). s.inlines) is) refl
