-- What is promised of the root document of a type and of a value of the type that is written.
use Rattle.std.specs.Prelude.{◌≡◌, ◌≤◌, ℕ, List, false}
use Rattle.serde_json.specs.Data.{Data}
use Rattle.schemars_schema.specs.Json.{Text}
use Rattle.schemars_schema.specs.Verdict.{Yes}
use Rattle.schemars_schema.specs.Judges.{Patterns}
use Rattle.schemars_schema.specs.Acceptance.{accepts, bound}
use Rattle.schemars_types.specs.Rows.{Row}
use Rattle.schemars_types.specs.declared.contract.Contract.TheVariants.{Serialize}
use Rattle.schemars_documents.specs.PlainTable.{IsPlainForEach}
use Rattle.schemars_headline.specs.Drafts.{Draft, dialect_of}
use Rattle.schemars_headline.specs.Headline.{IsDraftPath}
use Rattle.schemars_headline.specs.State.{State, HasOwnDefinitions, stripped}
use Rattle.schemars_impls.specs.Dictionary.{TypeRow}
use Rattle.schemars_walk.specs.Walk.{TransformStep}
use Rattle.schemars_transform.specs.Member.{some_own}
use Rattle.schemars_generate.specs.ByType.{IsRootOfType}
use Rattle.schemars_generate.specs.Generator.{Generator, Transforms, held_transforms, settings_of, state}
use Rattle.schemars_generate.specs.declared.error.GenerateError.{GenerateError}
use Rattle.schemars_generate.specs.declared.settings.SchemaSettings.{SchemaSettings}
use Rattle.schemars_generate.specs.Settings.{transforms_for}
use Rattle.schemars_agreement.specs.declared.error.WriteError.TheVariants.{NotInJson, Json}
use Rattle.schemars_accepted.specs.declared.error.RootError.{RootError}
use Rattle.schemars_accepted.specs.declared.error.RootError.TheVariants.{OutOfMemory, NotPlain, Generate, Write}

-- Settings for documents of what is written: their contract says so, their transforms are those of the draft, and their definitions are
-- at the path of a draft.
pub record AreForWriting {O : Type 0} (draft : Draft) (s : SchemaSettings O) : Type 0 where
  pub contract : (settings_of s).contract ≡ Serialize
  pub transforms : s.transforms.items ≡ transforms_for draft
  pub path : IsDraftPath (stripped (settings_of s).definitions_path)

-- A generator with such settings, of whose definitions the caller changed none.
pub record IsForWriting {O : Type 0} (draft : Draft) (g : Generator O) : Type 0 where
  pub settings : AreForWriting draft g.settings
  pub own : HasOwnDefinitions (state g)

-- in the draft, under each such reading of patterns, the document with definitions at the path accepts the value, from the bound on
abbrev pub AcceptsWritten : (Patterns → Type 0) → Draft → Text → Data → Data → Type 0
AcceptsWritten reading draft path document v =
    (patterns : Patterns) → reading patterns → (followed : ℕ) → bound path document v ≤ followed
    → accepts (dialect_of draft) document patterns followed document v ≡ Yes

-- The table is refused only if it is neither plain, nor plain under writing without flattened enums, and the value only if JSON does not have it; the document for a cause.
abbrev pub RefusesRoot : (GenerateError → Type 0) → Type 0 → List Row → RootError → Type 0
RefusesRoot Cause Valid rows OutOfMemory = Unit {0}
RefusesRoot Cause Valid rows NotPlain = IsPlainForEach Serialize rows → ⊥
RefusesRoot Cause Valid rows (Generate e) = Cause e
RefusesRoot Cause Valid rows (Write e) = e ≡ NotInJson → Valid → ⊥

-- The type has joined a generator, whose settings are as before. This is its root document, whose definitions the generator holds beside
-- those that it held. Built-in transforms stay as they are.
pub record HasRoot {O : Type 0} (Q : TransformStep O) (ts us : Transforms O) (t : TypeRow) (old new : State) (document : Data)
    : Type 0 where
  pub root : IsRootOfType Q ts us t old new document
  pub settings : new.settings ≡ old.settings
  pub own : HasOwnDefinitions old → HasOwnDefinitions new
  pub stay : some_own ts.items ≡ false → us.items ≡ ts.items

-- the type has joined the generator, and its root document was made
abbrev pub IsMade : {O : Type 0} → TransformStep O → TypeRow → Generator O → Generator O → Type 0
IsMade Q t old new = (document : Data) × HasRoot Q (held_transforms old) (held_transforms new) t (state old) (state new) document

-- What the generator is after a refusal. A value that JSON does not have leaves it unchanged. A document that is not made leaves it
-- unchanged, apart from its transforms. Else the type has joined it, and the document was made.
abbrev pub IsLeftWithRoot : {O : Type 0} → TransformStep O → TypeRow → Generator O → Generator O → RootError → Type 0
IsLeftWithRoot Q t old new OutOfMemory = IsMade Q t old new
IsLeftWithRoot Q t old new NotPlain = IsMade Q t old new
IsLeftWithRoot Q t old new (Generate e) = state new ≡ state old
IsLeftWithRoot Q t old new (Write NotInJson) = new ≡ old
IsLeftWithRoot Q t old new (Write (Json e)) = IsMade Q t old new
