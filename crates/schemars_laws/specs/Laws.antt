-- That a transform of whole documents moves what they accept from one dialect to another.
use Rattle.std.specs.Prelude.{◌≡◌, ℕ, true, codes}
use Rattle.serde_json.specs.Data.{Data, object, Members}
use Rattle.serde_json.specs.Find.{get_member}
use Rattle.schemars_schema.specs.Json.{Text}
use Rattle.schemars_schema.specs.Dialects.{Dialect, draft2020_12, openapi3}
use Rattle.schemars_schema.specs.Judges.{Patterns}
use Rattle.schemars_schema.specs.Acceptance.{accepts}
use Rattle.schemars_transform.specs.Built.{replace_bool_schemas, remove_ref_siblings, set_single_example, replace_const_value, replace_prefix_items}
use Rattle.schemars_transform.specs.Nullable.{add_nullable}
use Rattle.schemars_transform.specs.Unevaluated.{replace_unevaluated_properties}
use Rattle.schemars_laws.specs.Everywhere.{Everywhere}
use Rattle.schemars_laws.specs.Names.{Named, IsMap}
use Rattle.schemars_laws.specs.Classes.{IsOnce, IsReferenceAlone, plain_nullable}
use Rattle.schemars_laws.specs.Paths.{IsDefinitionAt, EachEverywhere, each_changed, components, components_of, MovesComponents}
use Rattle.schemars_laws.specs.Stages.{Stands, IsForOpenApi}

-- In a document of such schema objects, whose definitions stand at key and whose references are names, each such part accepts
-- in the transformed document, transformed, what it accepted, with as many references followed within one another.
abbrev pub MovesAcceptance : (Data → Data) → Dialect → Dialect → Text → (Members → Type 0) → Type 0
MovesAcceptance transform old new key Q =
    (ms : Members) → IsMap (get_member key ms) → Everywhere (Named old key Q) (object ms)
    → (patterns : Patterns) (n : ℕ) (part v : Data) → Everywhere (Named old key Q) part
    → accepts new (transform (object ms)) patterns n (transform part) v ≡ accepts old (object ms) patterns n part v

-- at the key of either draft
abbrev pub MovesDrafts : (Data → Data) → Dialect → Dialect → (Members → Type 0) → Type 0
MovesDrafts transform old new Q =
    MovesAcceptance transform old new (codes "$defs") Q × MovesAcceptance transform old new (codes "definitions") Q

-- wherever definitions are: at the key of either draft, or under components
abbrev pub MovesDocuments : (Data → Data) → Dialect → Dialect → (Members → Type 0) → Type 0
MovesDocuments transform old new Q = MovesDrafts transform old new Q × MovesComponents transform old new Q

-- after the siblings of references have gone, no schema object holds another keyword beside `$ref`
abbrev pub LeavesReferencesAlone : (Data → Data) → Type 0
LeavesReferencesAlone transform = (s : Data) → Everywhere (IsOnce (codes "$ref")) s → Everywhere IsReferenceAlone (transform s)

-- ---- the transforms of each dialect, one after another

abbrev pub for_draft07 : Data → Data
for_draft07 s = replace_prefix_items (remove_ref_siblings (replace_unevaluated_properties s))

abbrev pub for_draft2019_09 : Data → Data
for_draft2019_09 s = replace_prefix_items s

abbrev pub for_openapi3 : Data → Data
for_openapi3 s =
    replace_prefix_items (replace_const_value (set_single_example (remove_ref_siblings (add_nullable plain_nullable
    (replace_bool_schemas (record { skip_additional_properties = true }) (replace_unevaluated_properties s))))))

-- definitions under components, of schema objects for OpenAPI whose references lead to definitions there: each such part accepts
-- under OpenAPI, after its transforms, what it accepted under 2020-12
abbrev pub MovesToOpenApi : (Data → Data) → Type 0
MovesToOpenApi transform =
    (definitions : Members) → EachEverywhere (Stands (IsDefinitionAt components) IsForOpenApi) definitions
    → (patterns : Patterns) (n : ℕ) (part v : Data) → Everywhere (Stands (IsDefinitionAt components) IsForOpenApi) part
    → accepts openapi3 (components_of (each_changed transform definitions)) patterns n (transform part) v
    ≡ accepts draft2020_12 (components_of definitions) patterns n part v
