-- The text of the definitions that a row leads to.
use Rattle.std.specs.Prelude.{◌≡◌, ◌⊎◌, ℕ, false}
use Rattle.serde_json.specs.Data.{Data, Members, no_members}
use Rattle.serde_json.specs.Written.{members_have_float}
use Rattle.schemars_schema.specs.Json.{Text}
use Rattle.schemars_text.specs.OrderedText.{definitions_text}
use Rattle.schemars_walk.specs.Walk.{TransformStep}
use Rattle.schemars_headline.specs.State.{State}
use Rattle.schemars_generate.specs.Answers.{IsSubschemaFor, KeepsDefinitions}
use Rattle.schemars_generate.specs.Generator.{Generator, Transforms, transforms_of}
use Rattle.schemars_generate.specs.Settings.{transforms_openapi3}
use Rattle.schemars_generate.specs.Through.{AreTransformed, IsTakeRefusal}
use Rattle.schemars_generate.specs.declared.error.GenerateError.{GenerateError}
use Rattle.schemars_generate.specs.declared.error.GenerateError.TheVariants.{OutOfMemory, UnknownType}

-- the generator made a part for row n, and holds the definitions that were added for it
pub record HasMadePart (old new : State) (n : ℕ) : Type 0 where
  pub schema : Data
  pub subschema : IsSubschemaFor old new n schema
  pub keeps : KeepsDefinitions old new
  pub rest : new ≡ record old { names = new.names; definitions = new.definitions }

-- the definitions that a generator holds once it has made a part for row n, through the transforms, and their text in order, where the
-- numbers in them are whole
pub record IsDefinitionsText {O : Type 0} (Q : TransformStep O) (ts : Transforms O) (old : State) (n : ℕ) (text : Text) : Type 0 where
  pub new : State
  pub part : HasMadePart old new n
  pub after : Transforms O
  pub taken : Members
  pub transformed : AreTransformed Q ts after new taken
  pub is : members_have_float taken ≡ false → text ≡ definitions_text taken

-- why there is none: memory, no such row, or the transforms of the definitions that a generator holds once it has made a part for row n
abbrev pub IsDefinitionsRefusal : {O : Type 0} → TransformStep O → Transforms O → State → ℕ → GenerateError → Type 0
IsDefinitionsRefusal {O} Q ts old n e =
    (e ≡ OutOfMemory) ⊎ (e ≡ UnknownType n)
    ⊎ ((new : State) × HasMadePart old new n × (after : Transforms O) × IsTakeRefusal Q ts after new e)

-- the transforms are those of OpenAPI, and there are no definitions yet
pub record TakesEarly {O : Type 0} (g : Generator O) : Type 0 where
  pub transforms : transforms_of g ≡ transforms_openapi3
  pub none : g.definitions ≡ no_members
