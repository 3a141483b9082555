-- What a call by type makes of a table, what it answers, and what it refuses.
use Rattle.std.specs.Prelude.{◌≡◌, ◌⊎◌, ℕ, List, Some, IsSome, take, length}
use Rattle.serde_json.specs.Data.{Data}
use Rattle.schemars_types.specs.Rows.{Row, place_of, HasDistinctIds}
use Rattle.schemars_types.specs.Faults.{IsAccepted, Refusal}
use Rattle.schemars_types.specs.declared.error.TypesError.{TypesError}
use Rattle.schemars_impls.specs.Describes.{entry_under}
use Rattle.schemars_impls.specs.Dictionary.{TypeRow, IsIn, IsAdded, KeepsTo, RefusesAs}
use Rattle.schemars_walk.specs.Walk.{TransformStep}
use Rattle.schemars_headline.specs.Drafts.{Draft, dialect_of}
use Rattle.schemars_headline.specs.Headline.{RootHeadline, Headline, SubschemaHeadline}
use Rattle.schemars_headline.specs.State.{State, Settings, stripped}
use Rattle.schemars_generate.specs.Refusals.{error_of}
use Rattle.schemars_generate.specs.Generator.{Transforms}
use Rattle.schemars_generate.specs.Settings.{transforms_for}
use Rattle.schemars_generate.specs.Answers.{IsSubschemaFor}
use Rattle.schemars_generate.specs.Through.{IsTransformed, IsRootRefusal, IsUntransformedCall}
use Rattle.schemars_generate.specs.declared.error.GenerateError.{GenerateError}
use Rattle.schemars_generate.specs.declared.error.GenerateError.TheVariants.{OutOfMemory}

-- a generator with these rows
abbrev pub with_rows : List Row → State → State
with_rows rows s = record s { rows = rows }

-- The type has row n of a table that begins with the rows of the old one. If its row was defined already, no row was added; else it is
-- as the type says. No id stands twice in the new table, which follows each dictionary in which the type is, if the old one did.
pub record IsRegistered (t : TypeRow) (old new : List Row) (n : ℕ) : Type 0 where
  pub begins : take (length old) new ≡ old
  pub distinct : HasDistinctIds new
  pub added : IsAdded t old new n
  pub present : IsSome (entry_under t.id old) → new ≡ old
  pub follows : KeepsTo (IsIn t) old new

-- And `check` accepts the table.
pub record IsJoined (t : TypeRow) (old new : List Row) (n : ℕ) : Type 0 where
  pub registered : IsRegistered t old new n
  pub accepted : IsAccepted new

-- the transforms made the document of row n, of which R holds before them, in this table
pub record IsRootInTable {O : Type 0} (Q : TransformStep O) (ts us : Transforms O) (s : State) (n : ℕ) (R : Data → Type 0) (d : Data)
    : Type 0 where
  pub made : IsTransformed Q ts us R d
  pub headline : (draft : Draft) → ts.items ≡ transforms_for draft → RootHeadline (dialect_of draft) s n d

-- ---- what documents of types mean

-- the type has a row, which the schema means in each document that holds the definitions
pub record HasMeaningIn (t : TypeRow) (s : State) (d : Data) : Type 0 where
  pub n : ℕ
  pub number : place_of t.id s.rows ≡ Some n
  pub means : SubschemaHeadline s n d

-- the type has a row, which the root document means under the draft
pub record HasMeaning (draft : Draft) (t : TypeRow) (s : Settings) (rows : List Row) (d : Data) : Type 0 where
  pub n : ℕ
  pub number : place_of t.id rows ≡ Some n
  pub headline : Headline (dialect_of draft) rows s.contract (stripped s.definitions_path) n d

-- the same, each as one fact, into which search does not look
unfoldable pub MeansTypeIn : TypeRow → State → Data → Type 0
MeansTypeIn t s d = HasMeaningIn t s d

unfoldable pub MeansType : Draft → TypeRow → Settings → List Row → Data → Type 0
MeansType draft t s rows d = HasMeaning draft t s rows d

-- The type has joined the table, and this is the schema of its row in it.
pub record IsSubschemaOfType (t : TypeRow) (old new : State) (d : Data) : Type 0 where
  pub n : ℕ
  pub joined : IsJoined t old.rows new.rows n
  pub is : IsSubschemaFor (with_rows new.rows old) new n d

-- The type has joined the table, and this is the root document of its row in it.
pub record IsRootOfType {O : Type 0} (Q : TransformStep O) (ts us : Transforms O) (t : TypeRow) (old new : State) (d : Data) : Type 0 where
  pub n : ℕ
  pub joined : IsJoined t old.rows new.rows n
  pub is : IsRootInTable Q ts us (with_rows new.rows old) n (IsUntransformedCall (with_rows new.rows old) n new) d

-- ---- refusals

-- the type refuses as the dictionaries say in which it is, or the table in which it is registered has this fault
pub record HasTypeCause (t : TypeRow) (old : List Row) (e : GenerateError) : Type 0 where
  pub refusal : TypesError
  pub cause : RefusesAs (IsIn t) old refusal ⊎ ((rows : List Row) × (n : ℕ) × IsRegistered t old rows n × Refusal rows refusal)
  pub is_told : e ≡ error_of refusal

-- why a type is not added to a table; if its row is defined already, for want of memory alone
pub record IsTypeRefusal (t : TypeRow) (old : List Row) (e : GenerateError) : Type 0 where
  pub present : IsSome (entry_under t.id old) → e ≡ OutOfMemory
  pub cause : (e ≡ OutOfMemory) ⊎ HasTypeCause t old e

-- why the root document of a row of a longer table is refused
pub record HasRootCause {O : Type 0} (Q : TransformStep O) (ts us : Transforms O) (old : State) (IsRow : List Row → ℕ → Type 0)
    (e : GenerateError) : Type 0 where
  pub rows : List Row
  pub n : ℕ
  pub is_row : IsRow rows n
  pub refusal : IsRootRefusal Q ts us (with_rows rows old) n e

-- a type is not added to the table, and transforms stay as they are, or the root document of its row is refused
abbrev pub IsRootOfTypeRefusal : {O : Type 0} → TransformStep O → Transforms O → Transforms O → State → TypeRow
    → (List Row → ℕ → Type 0) → GenerateError → Type 0
IsRootOfTypeRefusal Q ts us old t IsRow e = (IsTypeRefusal t old.rows e × (us ≡ ts)) ⊎ HasRootCause Q ts us old IsRow e
