-- What the definitions that are taken for OpenAPI promise: each accepts exactly the values of its type, and its references lead to
-- others.
use Rattle.std.specs.Prelude.{◌≡◌, ℕ, Some, is_some, true}
use Rattle.serde_json.specs.Data.{Data, Members}
use Rattle.serde_json.specs.Find.{get_member}
use Rattle.schemars_schema.specs.Json.{Text}
use Rattle.schemars_schema.specs.Dialects.{openapi3}
use Rattle.schemars_schema.specs.References.{references, all_resolve}
use Rattle.schemars_build.specs.Naming.{name_of}
use Rattle.schemars_laws.specs.Paths.{components, components_of, each_changed}
use Rattle.schemars_laws.specs.Laws.{for_openapi3}
use Rattle.schemars_headline.specs.State.{State, path_of, HasOwnDefinitions}
use Rattle.schemars_headline.specs.Headline.{AcceptsItsValues, IsPlainFor}

-- in this document the schema of this name accepts under OpenAPI exactly the JSON values that belong to the row of the name, under
-- every reading of patterns, from the bound on, and leaves none open; and its references resolve
pub record MeansItsRow (s : State) (name : Text) (document schema : Data) : Type 0 where
  pub row : ℕ
  pub is_named : name_of row s.settings.contract s.names ≡ Some name
  pub accepts_its_values : AcceptsItsValues openapi3 s.rows s.settings.contract components row document schema
  pub references_resolve : all_resolve document (references schema) ≡ true

-- so does each of these, in a document that holds them under its components
abbrev pub MeanTheirRows : State → Members → Type 0
MeanTheirRows s taken = (name : Text) (d : Data) → get_member name taken ≡ Some d → MeansItsRow s name (components_of taken) d

-- where the definitions are the generator's own, for /components/schemas, of a table whose documents are promised under OpenAPI
abbrev pub TakenHeadline : State → Members → Type 0
TakenHeadline s taken =
    HasOwnDefinitions s → path_of s ≡ components → IsPlainFor openapi3 s.settings.contract s.rows → MeanTheirRows s taken

-- what the transforms of OpenAPI make of the definitions that a generator holds
abbrev pub OpenApiHeadline : State → Type 0
OpenApiHeadline s = TakenHeadline s (each_changed for_openapi3 s.definitions)

abbrev pub HasSameKeys : Members → Members → Type 0
HasSameKeys xs ys = (k : Text) → is_some (get_member k xs) ≡ is_some (get_member k ys)
