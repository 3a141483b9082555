-- What a run of the program promises.
use Rattle.std.specs.Prelude.{◌≡◌, ◌⊎◌, ℕ, List, [], ◌∷◌, ◌++◌, Option, Some, None, false, String}
use Rattle.std.specs.declared.alloc.Global.{Global}
use Rattle.std.specs.Io.KnownBytes.{Consumes, IsAtEnd}
use Rattle.serde_json.specs.Data.{Data, Members, no_members}
use Rattle.serde_json.specs.Written.{has_float, members_have_float}
use Rattle.schemars_schema.specs.Json.{Text}
use Rattle.schemars_text.specs.OrderedText.{ordered_text, definitions_text}
use Rattle.schemars_schema.specs.References.{references}
use Rattle.schemars_sample.specs.Accepted.{AcceptsExample}
use Rattle.schemars_sample.specs.Example.{Example}
use Rattle.schemars_sample.specs.SampleJson.{HasWholeJson}
use Rattle.schemars_sample.specs.SampleSchema.{sample_root}
use Rattle.schemars_types.specs.Rows.{Row}
use Rattle.schemars_documents.specs.PlainTable.{HasPlainNotes, HasNoFloat}
use Rattle.schemars_generate.specs.declared.error.GenerateError.{GenerateError}
use Rattle.schemars_generate.specs.declared.error.GenerateError.TheVariants.{OutOfMemory, DefinitionsPath}
use Rattle.schemars_headline.specs.Headline.{Headline, CannotPlace, IsPlainFor}
use Rattle.schemars_headline.specs.Calls.{IsLastRootCall, IsPartOf, HasAdded, IsNeeded}
use Rattle.schemars_schema.specs.Dialects.{openapi3}
use Rattle.schemars_headline.specs.Drafts as drafts
use Rattle.schemars_headline.specs.Drafts.{Draft, dialect_of, AcceptsExampleUnder}
use Rattle.schemars_headline.specs.Taken.{TakenHeadline, MeanTheirRows}
use Rattle.schemars_generate.specs.Refusals.{code_of}
use Rattle.schemars_headline.specs.State.{Settings, State, settings2020_12, stripped, HasOwnDefinitions}
use Rattle.schemars_types.specs.declared.contract.Contract.{Contract}
use Rattle.schemars_transform.specs.declared.gen_transform.GenTransform.{GenTransform}
use Rattle.schemars_transform.specs.declared.no_transform.NoTransform.{NoTransform}
use Rattle.schemars_transform.specs.BuiltIn.{IsMadeBy, each_made_by}
use Rattle.schemars_generate.specs.Settings.{settings07, settings2019_09, settings_openapi3, transforms07, transforms2019_09, transforms_openapi3}
use Rattle.schemagen_run.specs.declared.words.Asked.{Asked}
use Rattle.schemagen_run.specs.declared.words.Dialect.{Dialect}
use Rattle.schemagen_run.specs.declared.words.Dialect.TheVariants.{Draft2020_12, Draft2019_09, Draft07, OpenApi3}
use Rattle.schemagen_run.specs.CommandLine.{AskFor, AskForExample}
use Rattle.schemagen_run.specs.declared.fault.Fault.{Fault}
use Rattle.schemagen_run.specs.declared.fault.Fault.TheVariants.{Refused}
use Rattle.schemars_generate.specs.declared.error.TheConstants.{OUT_OF_MEMORY, DEFINITIONS_PATH}
use Rattle.schemagen_run.specs.Fault.{IsLineFault}
pub use Rattle.schemars_types.specs.Faults.{IsAccepted}
pub use Rattle.schemars_generate.specs.Refusals.{HasFault}
pub use Rattle.schemars_generate.specs.Generator.{settings_of, state, transforms_of}
pub use Rattle.schemars_sample.specs.Example.{example_of}
pub use Rattle.schemars_sample.specs.SampleJson.{sample_json}
pub use Rattle.schemagen_input.specs.Input.{is_table}
pub use Rattle.schemagen_input.specs.SampleInput.{sample_input, IsAsRead}
pub use Rattle.schemagen_input.specs.Texts.{IsTextOf, IsNoJson, IsBadTable, IsTableText, IsAcceptedText}

-- the source has given all that it had left, and these bytes are so
abbrev pub GivesAll : Option (List ℕ) → Option (List ℕ) → (List ℕ → Type 0) → Type 0
GivesAll old new Q = (bytes : List ℕ) × Consumes old new bytes × IsAtEnd new × Q bytes

-- the JSON text of a table without faults whose rows have only annotations for notes
abbrev pub IsNotedText : List ℕ → Type 0
IsNotedText bytes =
    (rows : List Row) × ((root : ℕ) × IsTableText rows root bytes × IsAccepted rows × HasPlainNotes rows)

-- the error names the fault of this table
abbrev pub Tells : List Row → Fault → Type 0
Tells rows fault = (e : GenerateError) × HasFault rows e × (fault ≡ Refused (code_of e))

-- the JSON text of a table with the fault that the error names
abbrev pub IsFaultyTable : Fault → List ℕ → Type 0
IsFaultyTable fault bytes = (rows : List Row) × ((root : ℕ) × IsTableText rows root bytes × Tells rows fault)

-- ---- documents

-- the settings and the transforms of a dialect
abbrev pub settings_of_dialect : Dialect → Settings
settings_of_dialect Draft2020_12 = settings2020_12
settings_of_dialect Draft2019_09 = settings2019_09
settings_of_dialect Draft07 = settings07
settings_of_dialect OpenApi3 = settings_openapi3

abbrev pub transforms_of_dialect : Dialect → List (GenTransform NoTransform)
transforms_of_dialect Draft2020_12 = []
transforms_of_dialect Draft2019_09 = transforms2019_09
transforms_of_dialect Draft07 = transforms07
transforms_of_dialect OpenApi3 = transforms_openapi3

abbrev pub settings_for : Asked → Settings
settings_for asked = record (settings_of_dialect asked.dialect) { contract = asked.contract; inlines = asked.inlines }

-- a generator over the table that has made nothing yet
abbrev pub fresh : Asked → List Row → State
fresh asked rows = record { settings = settings_for asked; rows = rows; names = []; definitions = no_members }

-- the draft that promises something of the root documents of a dialect; of those for OpenAPI nothing is promised
abbrev pub draft_of : Dialect → Option Draft
draft_of Draft2020_12 = Some drafts.Draft2020_12
draft_of Draft2019_09 = Some drafts.Draft2019_09
draft_of Draft07 = Some drafts.Draft07
draft_of OpenApi3 = None

-- under the keywords of a draft the document of a plain table accepts exactly the values of the row
abbrev pub Means : Dialect → List Row → Contract → ℕ → Data → Type 0
Means dialect rows contract root document =
    (draft : Draft) → draft_of dialect ≡ Some draft
    → Headline (dialect_of draft) rows contract (stripped (settings_of_dialect dialect).definitions_path) root document

-- the root document of this row: the transforms of the dialect make it of the one that is made by the rules, and where the
-- table is plain it accepts exactly the values of the type; the numbers in it are whole, where those in notes and literals are
abbrev pub IsWrittenDocument : Asked → List Row → ℕ → Data → Type 0
IsWrittenDocument asked rows root document =
    IsMadeBy (transforms_of_dialect asked.dialect) (IsLastRootCall (fresh asked rows) root) document
    × Means asked.dialect rows asked.contract root document
    × (HasNoFloat rows → has_float document ≡ false)

-- what a generator holds after it has made a part for this row, and its definitions, through these transforms
abbrev pub AreTakenAt : List (GenTransform NoTransform) → State → ℕ → State → Members → Type 0
AreTakenAt ts old root s taken =
    (part : Data) × IsPartOf s root part × (s ≡ record old { names = s.names; definitions = s.definitions }) × HasAdded old s
    × (HasOwnDefinitions old → HasOwnDefinitions s) × IsNeeded old s (references part) × (taken ≡ each_made_by ts s.definitions)

-- the definitions that a part for this row leads to, through these transforms; through those of OpenAPI they mean their rows
abbrev pub AreTaken : List (GenTransform NoTransform) → State → ℕ → Members → Type 0
AreTaken ts old root taken =
    (s : State) × AreTakenAt ts old root s taken × (ts ≡ transforms_openapi3 → TakenHeadline s taken)
    × (HasNoFloat s.rows → HasOwnDefinitions s → members_have_float taken ≡ false)

-- those that it leads to, through the transforms of OpenAPI: where the table is plain for OpenAPI, under `components.schemas` each
-- accepts under OpenAPI exactly the values of the row of its name, and its references resolve; the numbers in them are whole, where
-- those in notes and literals are
abbrev pub AreDefinitionsOf : Asked → List Row → ℕ → Members → Type 0
AreDefinitionsOf asked rows root taken =
    (s : State) × AreTakenAt transforms_openapi3 (fresh asked rows) root s taken
    × (IsPlainFor openapi3 (fresh asked rows).settings.contract rows → MeanTheirRows s taken)
    × (HasNoFloat rows → members_have_float taken ≡ false)

-- the text of a document in order, where the numbers in it are whole, and a newline
abbrev pub IsTextLine : Data → Text → Type 0
IsTextLine document line =
    (text : Text) × (has_float document ≡ false → text ≡ ordered_text document) × (line ≡ text ++ 10 ∷ [])

-- that of definitions
abbrev pub IsDefinitionsLine : Members → Text → Type 0
IsDefinitionsLine taken line =
    (text : Text) × (members_have_float taken ≡ false → text ≡ definitions_text taken) × (line ≡ text ++ 10 ∷ [])

abbrev pub IsDocumentLine : Asked → List Row → ℕ → Text → Type 0
IsDocumentLine asked rows root line = (document : Data) × IsWrittenDocument asked rows root document × IsTextLine document line

-- the line of this row in a dialect: of its root document, or, for OpenAPI, of the definitions that it leads to
abbrev pub IsLineIn : Dialect → Asked → List Row → ℕ → Text → Type 0
IsLineIn Draft2020_12 asked rows root line = IsDocumentLine asked rows root line
IsLineIn Draft2019_09 asked rows root line = IsDocumentLine asked rows root line
IsLineIn Draft07 asked rows root line = IsDocumentLine asked rows root line
IsLineIn OpenApi3 asked rows root line = (taken : Members) × AreDefinitionsOf asked rows root taken × IsDefinitionsLine taken line

abbrev pub IsLineOf : Asked → List Row → ℕ → Text → Type 0
IsLineOf asked rows root line = IsLineIn asked.dialect asked rows root line

-- the root document of this row has definitions, and no place for them
abbrev pub IsUnplaced : Asked → List Row → ℕ → Type 0
IsUnplaced asked rows root = IsAccepted rows × CannotPlace (fresh asked rows) root

-- why there is no document of this row, or why there are no definitions
pub record IsRefusal (asked : Asked) (rows : List Row) (root : ℕ) (e : GenerateError) : Type 0 where
  pub refused : (e ≡ OutOfMemory) ⊎ HasFault rows e ⊎ ((e ≡ DefinitionsPath) × IsUnplaced asked rows root)
  pub unfaulty : IsAccepted rows → (e ≡ OutOfMemory) ⊎ (e ≡ DefinitionsPath)
  pub only_memory : IsAccepted rows → HasPlainNotes rows → e ≡ OutOfMemory

-- why there is no line
pub record IsLineRefusal (asked : Asked) (rows : List Row) (root : ℕ) (f : Fault) : Type 0 where
  pub refused : (f ≡ Refused OUT_OF_MEMORY) ⊎ Tells rows f ⊎ ((f ≡ Refused DEFINITIONS_PATH) × IsUnplaced asked rows root)
  pub faults : IsLineFault f
  pub unfaulty : IsAccepted rows → (f ≡ Refused OUT_OF_MEMORY) ⊎ (f ≡ Refused DEFINITIONS_PATH)
  pub only_memory : IsAccepted rows → HasPlainNotes rows → f ≡ Refused OUT_OF_MEMORY

-- the bytes are the text of a table without faults, and Q holds of the line of its root
abbrev pub IsTableLine : Asked → List ℕ → (Text → Type 0) → Type 0
IsTableLine asked bytes Q =
    (rows : List Row) × ((root : ℕ) × ((line : Text)
    × IsTableText rows root bytes × IsAccepted rows × IsLineOf asked rows root line × Q line))

-- the bytes are the text of a table without faults, and the document of its root has no place for its definitions
abbrev pub IsUnplacedText : Asked → List ℕ → Type 0
IsUnplacedText asked bytes = (rows : List Row) × ((root : ℕ) × IsTableText rows root bytes × IsUnplaced asked rows root)

-- so are the document and its definitions that the words ask for
abbrev pub IsUnplacedFor : List (String Global) → List ℕ → Type 0
IsUnplacedFor words bytes = (asked : Asked) × AskFor words asked × IsUnplacedText asked bytes

-- ---- examples

-- JSON, but with a float that is not between -2^63 and 2^64, as which a whole number beyond 64 bits is read
abbrev pub IsNotWhole : List ℕ → Type 0
IsNotWhole bytes = (d : Data) × IsTextOf d bytes × (sample_input d ≡ None)

-- the JSON text of an example
abbrev pub IsSampleText : List ℕ → Type 0
IsSampleText bytes = (d : Data) × IsTextOf d bytes × ((x : Example) × (sample_input d ≡ Some x))

-- the document for a draft accepts the example, whatever its references say
abbrev pub AcceptsIn : Dialect → Example → Data → Type 0
AcceptsIn dialect x document = (draft : Draft) → draft_of dialect ≡ Some draft → AcceptsExample x document

-- the root document of this example before the transforms: it accepts the example, and its numbers are whole, where those in the
-- example are
abbrev pub IsUntransformedExample : Dialect → Example → Data → Type 0
IsUntransformedExample dialect x document =
    (document ≡ sample_root (settings_of_dialect dialect).meta_schema x) × AcceptsIn dialect x document
    × (HasWholeJson x → has_float document ≡ false)

-- under the keywords of a draft the document accepts the example
abbrev pub AcceptsUnder : Dialect → Example → Data → Type 0
AcceptsUnder dialect x document =
    (draft : Draft) → draft_of dialect ≡ Some draft → AcceptsExampleUnder (dialect_of draft) x document

-- after the transforms of the dialect, where it accepts the example too, and its numbers are whole, where those in the example are
abbrev pub IsSampleDocument : Dialect → Example → Data → Type 0
IsSampleDocument dialect x document =
    IsMadeBy (transforms_of_dialect dialect) (IsUntransformedExample dialect x) document × AcceptsUnder dialect x document
    × (HasWholeJson x → has_float document ≡ false)

-- the line of the document of the example
abbrev pub IsExampleLine : Dialect → Example → Text → Type 0
IsExampleLine dialect x line = (document : Data) × IsSampleDocument dialect x document × IsTextLine document line

-- that of the example that the value is, whose own JSON the value is
abbrev pub IsSampleLineOf : Dialect → Data → Text → Type 0
IsSampleLineOf dialect d line =
    (x : Example) × (sample_input d ≡ Some x) × (sample_json x ≡ Some d) × IsExampleLine dialect x line

-- the bytes are the text of this value, and Q holds of the line of its document
abbrev pub IsSampleLine : Dialect → List ℕ → (Text → Type 0) → Type 0
IsSampleLine dialect bytes Q = (d : Data) × ((line : Text) × IsTextOf d bytes × IsSampleLineOf dialect d line × Q line)

-- ---- lines

-- Q holds of the line that the words ask for, of the text that the bytes are
abbrev pub IsLineFor : List (String Global) → List ℕ → (Text → Type 0) → Type 0
IsLineFor words bytes Q =
    ((asked : Asked) × AskFor words asked × IsTableLine asked bytes Q)
    ⊎ ((dialect : Dialect) × AskForExample words dialect × IsSampleLine dialect bytes Q)
