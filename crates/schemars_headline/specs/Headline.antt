-- What a generated document promises: it accepts exactly the values that belong to its type.
-- This file is trusted: the theorem is stated in its words.
use Rattle.std.specs.Prelude.{◌≡◌, ◌≤◌, ◌⊎◌, ℕ, List, [], Contains, true, false, Option, Some, None, codes}
use Rattle.serde_json.specs.Data.{Data, object, Members, no_members, member}
use Rattle.serde_json.specs.Find.{get_member, pointer}
use Rattle.schemars_schema.specs.Verdict.{verdict}
use Rattle.schemars_schema.specs.Json.{Text, IsJson}
use Rattle.schemars_schema.specs.Dialects.{Dialect, draft2020_12}
use Rattle.schemars_schema.specs.Judges.{Patterns}
use Rattle.schemars_schema.specs.Acceptance.{accepts, bound}
use Rattle.schemars_schema.specs.References.{ReferencesResolve, all_resolve, references}
use Rattle.schemars_schema.specs.Placing.{placed_at}
use Rattle.schemars_types.specs.Rows.{Row, name_at}
use Rattle.schemars_types.specs.Edges.{numbers_at}
use Rattle.schemars_cycles.specs.Walks.{OnCycle, IsFree}
use Rattle.schemars_types.specs.declared.contract.Contract.{Contract}
use Rattle.schemars_types.specs.Meaning.{belongs}
use Rattle.schemars_documents.specs.PlainTable.{IsPlainTable, IsPlainUnder, FlattensNoEnums}
use Rattle.schemars_templates.specs.Finished.{root_document}
use Rattle.schemars_build.specs.Registry.{Registry, Step}
use Rattle.schemars_build.specs.Parts.{IsDocumentOf}
use Rattle.schemars_build.specs.Reached.{AreReached}
use Rattle.schemars_headline.specs.State.{State, path_of, state_plan, registry_of, HasOwnDefinitions}

-- under every reading of patterns, from the bound on, the schema in this document accepts under the dialect a JSON value exactly
-- when it belongs to the row, and never leaves it open
abbrev pub AcceptsItsValues : Dialect → List Row → Contract → Text → ℕ → Data → Data → Type 0
AcceptsItsValues dialect rows contract path n document schema =
    (patterns : Patterns) (v : Data) → IsJson v → (followed : ℕ) → bound path document v ≤ followed
    → accepts dialect document patterns followed schema v ≡ verdict (belongs rows contract patterns n v)

-- ---- root documents

-- the headline, for a root document of row n whose definitions are at the path
pub record MeansItsType (dialect : Dialect) (rows : List Row) (contract : Contract) (path : Text) (n : ℕ) (document : Data) : Type 0 where
  pub accepts_its_values : AcceptsItsValues dialect rows contract path n document document
  pub references_resolve : ReferencesResolve document

-- the tables whose documents are promised under a dialect: plain ones, and those that are plain under the contract, if the dialect reads
-- `unevaluatedProperties`, or no enum is flattened
abbrev pub IsPlainFor : Dialect → Contract → List Row → Type 0
IsPlainFor dialect contract rows =
    IsPlainTable rows ⊎ (((dialect.reads_unevaluated ≡ true) ⊎ FlattensNoEnums rows) × IsPlainUnder contract rows)

abbrev pub Headline : Dialect → List Row → Contract → Text → ℕ → Data → Type 0
Headline dialect rows contract path n document =
    IsPlainFor dialect contract rows → MeansItsType dialect rows contract path n document

-- the paths of the drafts, and those of all dialects
abbrev pub IsDraftPath : Text → Type 0
IsDraftPath path = (path ≡ codes "/$defs") ⊎ (path ≡ codes "/definitions")

-- that of a generator whose definitions are its own, and are at the path of a draft
abbrev pub RootHeadline : Dialect → State → ℕ → Data → Type 0
RootHeadline dialect s n document =
    HasOwnDefinitions s → IsDraftPath (path_of s) → Headline dialect s.rows s.settings.contract (path_of s) n document

abbrev pub IsKnownPath : Text → Type 0
IsKnownPath path = IsDraftPath path ⊎ (path ≡ codes "/components/schemas")

-- the document with the definitions at the path, if there are any
abbrev pub with_definitions : Text → Members → Data → Option Data
with_definitions path no_members document = Some document
with_definitions path (member k d ms) document = placed_at path (member k d ms) document

-- the document of row n as a root document, without the definitions, where all that was added is reached from it
pub record IsTitledRoot (old : State) (before : Registry) (n : ℕ) (registry : Registry) (document : Data) : Type 0 where
  pub own : Data
  pub is_document : IsDocumentOf (state_plan old (Some n)) true registry before.pending n own
  pub is_root : document ≡ root_document (name_at old.rows n) old.settings.meta_schema own
  pub reached : IsPlainTable old.rows → AreReached (state_plan old (Some n)) false before registry (references own)

-- what a root call makes: the document of row n, made a root document, with the definitions, where all that was added is reached from it
pub record IsRootOf (old : State) (n : ℕ) (registry : Registry) (document : Data) : Type 0 where
  pub step : Step (state_plan old (Some n)) (registry_of old) registry
  pub own : Data
  pub is_document : IsDocumentOf (state_plan old (Some n)) true registry [] n own
  pub is_root : with_definitions (state_plan old (Some n)).path registry.definitions
      (root_document (name_at old.rows n) old.settings.meta_schema own) ≡ Some document
  pub reached : IsPlainTable old.rows → AreReached (state_plan old (Some n)) false (registry_of old) registry (references own)

-- a root document of row n whose definitions cannot be placed, where all that was added is reached from it
pub record CannotPlace (old : State) (n : ℕ) : Type 0 where
  pub registry : Registry
  pub step : Step (state_plan old (Some n)) (registry_of old) registry
  pub own : Data
  pub is_document : IsDocumentOf (state_plan old (Some n)) true registry [] n own
  pub no_place : with_definitions (state_plan old (Some n)).path registry.definitions
      (root_document (name_at old.rows n) old.settings.meta_schema own) ≡ None
  pub reached : IsPlainTable old.rows → AreReached (state_plan old (Some n)) false (registry_of old) registry (references own)

-- ---- subschemas

-- a document in which these definitions are found at the path, or any, where there are none
abbrev pub IsHolding : Text → Members → Data → Type 0
IsHolding path definitions document = (definitions ≡ no_members) ⊎ (pointer path document ≡ Some (object definitions))

-- a subschema of row n, and the definitions that it leads to
pub record MeansItsTypeIn (rows : List Row) (contract : Contract) (path : Text) (n : ℕ) (definitions : Members)
    (document schema : Data) : Type 0 where
  pub accepts_its_values : AcceptsItsValues draft2020_12 rows contract path n document schema
  pub references_resolve : all_resolve document (references schema) ≡ true
  pub definitions_resolve : (name : Text) (d : Data) → get_member name definitions ≡ Some d → all_resolve document (references d) ≡ true

-- in each document that holds the definitions at the path
abbrev pub SubschemaHeadline : State → ℕ → Data → Type 0
SubschemaHeadline s n schema =
    IsPlainFor draft2020_12 s.settings.contract s.rows → IsKnownPath (path_of s) → (document : Data) → IsHolding (path_of s) s.definitions document
    → MeansItsTypeIn s.rows s.settings.contract (path_of s) n s.definitions document schema

-- ---- rows in place

-- a row refers to another
abbrev pub Edge : List Row → ℕ → ℕ → Type 0
Edge rows n m = Contains (numbers_at rows n) m

-- no row refers to itself, at once or through others
abbrev pub HasNoCycle : List Row → Type 0
HasNoCycle rows = IsFree (OnCycle (Edge rows))

-- where rows are inlined, a table without a cycle gives documents without references
abbrev pub IsInlined : State → Data → Type 0
IsInlined s d = s.settings.inlines ≡ true → IsPlainTable s.rows → HasNoCycle s.rows → references d ≡ []
