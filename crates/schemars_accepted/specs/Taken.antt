-- What is promised of the definitions that are taken for OpenAPI with a type, and of a value of the type that is written.
use Rattle.std.specs.Prelude.{◌≡◌, ◌⊎◌, ◌≤◌, ◌<◌, ℕ, [], Some, false}
use Rattle.serde_json.specs.Data.{Data, Members}
use Rattle.serde_json.specs.Find.{get_member}
use Rattle.schemars_schema.specs.Json.{Text}
use Rattle.schemars_schema.specs.Verdict.{Yes}
use Rattle.schemars_schema.specs.Dialects.{openapi3}
use Rattle.schemars_schema.specs.Judges.{Patterns}
use Rattle.schemars_schema.specs.Acceptance.{accepts, bound}
use Rattle.schemars_types.specs.Rows.{place_of}
use Rattle.schemars_types.specs.declared.contract.Contract.TheVariants.{Serialize}
use Rattle.schemars_impls.specs.Dictionary.{TypeRow}
use Rattle.schemars_templates.specs.Finished.{reference}
use Rattle.schemars_build.specs.Naming.{name_of}
use Rattle.schemars_build.specs.Placed.{is_in_place}
use Rattle.schemars_build.specs.Registry.{reference_to}
use Rattle.schemars_laws.specs.Paths.{components, components_of}
use Rattle.schemars_walk.specs.Walk.{TransformStep}
use Rattle.schemars_headline.specs.State.{State, HasOwnDefinitions, stripped}
use Rattle.schemars_generate.specs.ByType.{IsSubschemaOfType, IsTypeRefusal}
use Rattle.schemars_generate.specs.Generator.{Generator, Transforms, held_transforms, settings_of, state}
use Rattle.schemars_generate.specs.Settings.{transforms_openapi3}
use Rattle.schemars_generate.specs.Through.{AreTransformed, AreGone, IsTakeRefusal}
use Rattle.schemars_generate.specs.declared.error.GenerateError.{GenerateError}
use Rattle.schemars_generate.specs.declared.settings.SchemaSettings.{SchemaSettings}
use Rattle.schemars_agreement.specs.declared.error.WriteError.TheVariants.{NotInJson, Json}
use Rattle.schemars_accepted.specs.declared.error.RootError.{RootError}
use Rattle.schemars_accepted.specs.declared.error.RootError.TheVariants.{OutOfMemory, NotPlain, Generate, Write}

-- Settings for definitions of what is written, for OpenAPI: their contract says so, and their transforms and their path are OpenAPI's.
pub record AreForOpenApi {O : Type 0} (s : SchemaSettings O) : Type 0 where
  pub contract : (settings_of s).contract ≡ Serialize
  pub transforms : s.transforms.items ≡ transforms_openapi3
  pub path : stripped (settings_of s).definitions_path ≡ components

-- A generator with such settings, of whose definitions the caller changed none.
pub record IsForOpenApi {O : Type 0} (g : Generator O) : Type 0 where
  pub settings : AreForOpenApi g.settings
  pub own : HasOwnDefinitions (state g)

-- ---- the value is accepted

-- under OpenAPI, under each such reading of patterns, in a document with these definitions under its components, the schema accepts the
-- value, from the bound on
abbrev pub DefinitionAccepts : (Patterns → Type 0) → Members → Data → Data → Type 0
DefinitionAccepts reading taken schema v =
    (patterns : Patterns) → reading patterns → (followed : ℕ) → bound components (components_of taken) v ≤ followed
    → accepts openapi3 (components_of taken) patterns followed schema v ≡ Yes

-- The schema is the reference to the definition of this name. The definition accepts the value, and so does the schema, with one reference
-- more followed.
pub record ReferenceAccepts (reading : Patterns → Type 0) (taken : Members) (name : Text) (schema v : Data) : Type 0 where
  pub is_reference : schema ≡ reference (reference_to components name)
  pub definition : Data
  pub is_there : get_member name taken ≡ Some definition
  pub definition_accepts : DefinitionAccepts reading taken definition v
  pub accepts_too : (patterns : Patterns) → reading patterns → (followed : ℕ) → bound components (components_of taken) v < followed
      → accepts openapi3 (components_of taken) patterns followed schema v ≡ Yes

-- The type has a row. The definition of a name of the row accepts the value. If the row is not written in place, the schema is the
-- reference to such a definition.
pub record TakenAccepts (reading : Patterns → Type 0) (t : TypeRow) (s : State) (taken : Members) (schema v : Data) : Type 0 where
  pub n : ℕ
  pub number : place_of t.id s.rows ≡ Some n
  pub definitions_accept : (name : Text) → name_of n Serialize s.names ≡ Some name → (d : Data) → get_member name taken ≡ Some d
      → DefinitionAccepts reading taken d v
  pub refers : is_in_place s.rows s.settings.inlines [] n ≡ false
      → (name : Text) × (name_of n Serialize s.names ≡ Some name) × ReferenceAccepts reading taken name schema v

-- ---- what is made

-- The type has joined a generator. This is its schema, whose definitions the generator holds beside those that it held.
pub record HasJoined (t : TypeRow) (old new : State) (schema : Data) : Type 0 where
  pub subschema : IsSubschemaOfType t old new schema
  pub settings : new.settings ≡ old.settings
  pub own : HasOwnDefinitions old → HasOwnDefinitions new

-- Then all definitions were taken, with the transforms applied.
pub record AreTaken {O : Type 0} (Q : TransformStep O) (ts us : Transforms O) (t : TypeRow) (old new : State) (schema : Data)
    (taken : Members) : Type 0 where
  pub before : State
  pub joined : HasJoined t old before schema
  pub transformed : AreTransformed Q ts us before taken
  pub gone : AreGone before new

-- ---- refusals

-- the type has joined the generator, and no definition is taken
abbrev pub IsNotTaken : TypeRow → State → State → Type 0
IsNotTaken t old new = (schema : Data) × HasJoined t old new schema

-- the type is refused, and the generator is unchanged; or the type has joined it, and the definitions are refused
abbrev pub IsTakenRefusal : {O : Type 0} → TransformStep O → TypeRow → Generator O → Generator O → GenerateError → Type 0
IsTakenRefusal Q t old new e = (IsTypeRefusal t old.rows e × (new ≡ old))
    ⊎ (IsNotTaken t (state old) (state new) × IsTakeRefusal Q (held_transforms old) (held_transforms new) (state new) e)

-- What the generator is after a refusal. A value that JSON does not have leaves it unchanged, and so does a type that is refused. Else the
-- type has joined it, and no definition is taken; transforms were applied only if the definitions were refused.
abbrev pub IsLeft : {O : Type 0} → TypeRow → Generator O → Generator O → RootError → Type 0
IsLeft t old new OutOfMemory = IsNotTaken t (state old) (state new) × (held_transforms new ≡ held_transforms old)
IsLeft t old new NotPlain = IsNotTaken t (state old) (state new) × (held_transforms new ≡ held_transforms old)
IsLeft t old new (Generate e) = (new ≡ old) ⊎ IsNotTaken t (state old) (state new)
IsLeft t old new (Write NotInJson) = new ≡ old
IsLeft t old new (Write (Json e)) = IsNotTaken t (state old) (state new) × (held_transforms new ≡ held_transforms old)
