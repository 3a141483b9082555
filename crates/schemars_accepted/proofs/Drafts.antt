-- The settings of the drafts and of OpenAPI, made ones for what is written.
use Rattle.std.proofs.Common.{◌≡◌, [], inl, inr, ap}
use Rattle.schemars_types.specs.declared.contract.Contract.TheVariants.{Serialize}
use Rattle.schemars_accepted.proofs.Words.{Draft2020_12, Draft2019_09, Draft07, Settings, settings2020_12, stripped, settings_of, settings07, settings2019_09, settings_openapi3, transforms07, transforms2019_09, transforms_openapi3, AreForWriting, AreForOpenApi}
use Rattle.schemars_generate.specs.declared.settings.SchemaSettings.{SchemaSettings}

pub written_2020_12 : {O : Type 0} (s : SchemaSettings O) → settings_of s ≡ record settings2020_12 { contract = Serialize }
    → s.transforms.items ≡ [] → AreForWriting Draft2020_12 s
written_2020_12 s is none = record {
  contract = ap (λ (x : Settings). x.contract) is;
  transforms = none;
  path = inl (ap (λ (x : Settings). stripped x.definitions_path) is);
}

pub written_2019_09 : {O : Type 0} (s : SchemaSettings O) → settings_of s ≡ record settings2019_09 { contract = Serialize }
    → s.transforms.items ≡ transforms2019_09 → AreForWriting Draft2019_09 s
written_2019_09 s is some = record {
  contract = ap (λ (x : Settings). x.contract) is;
  transforms = some;
  path = inl (ap (λ (x : Settings). stripped x.definitions_path) is);
}

pub written_07 : {O : Type 0} (s : SchemaSettings O) → settings_of s ≡ record settings07 { contract = Serialize }
    → s.transforms.items ≡ transforms07 → AreForWriting Draft07 s
written_07 s is some = record {
  contract = ap (λ (x : Settings). x.contract) is;
  transforms = some;
  path = inr (ap (λ (x : Settings). stripped x.definitions_path) is);
}

pub written_openapi3 : {O : Type 0} (s : SchemaSettings O) → settings_of s ≡ record settings_openapi3 { contract = Serialize }
    → s.transforms.items ≡ transforms_openapi3 → AreForOpenApi s
written_openapi3 s is some = record {
  contract = ap (λ (x : Settings). x.contract) is;
  transforms = some;
  path = ap (λ (x : Settings). stripped x.definitions_path) is;
}
