-- Which definitions of a document are needed: each that a reference outside the definitions leads to, or one in a needed definition.
use Rattle.std.specs.Prelude.{◌≡◌, List, [], ◌∷◌, Some}
use Rattle.serde_json.specs.Data.{Data, null, boolean, number, string, array, object, Members, no_members}
use Rattle.serde_json.specs.Find.{pointer}
use Rattle.schemars_schema.specs.Json.{Text}
use Rattle.schemars_schema.specs.Edits.{without}
use Rattle.schemars_schema.specs.References.{references}
use Rattle.schemars_documents.specs.PlainTable.{IsPlainTable}
use Rattle.schemars_build.specs.Registry.{IsKey}
use Rattle.schemars_build.specs.Reached.{IsReached}
use Rattle.schemars_headline.specs.State.{State, path_of}
use Rattle.schemars_headline.specs.Headline.{IsDraftPath}

-- the key of the definitions: the path of a draft is `/` and this key
abbrev pub key_of : Text → Text
key_of [] = []
key_of (slash ∷ key) = key

-- the references of a document outside its definitions
abbrev pub references_outside : Text → Data → List Data
references_outside path (object ms) = references (object (without (key_of path) ms))
references_outside path null = []
references_outside path (boolean b) = []
references_outside path (number n) = []
references_outside path (string s) = []
references_outside path (array ds) = []

-- each definition is reached: a reference outside the definitions names it, or one in a reached definition does
abbrev pub DefinitionsAreReached : Text → Data → Type 0
DefinitionsAreReached path document =
    (definitions : Members) → pointer path document ≡ Some (object definitions)
    → (name : Text) → IsKey name definitions → IsReached path definitions (references_outside path document) name

-- so it is in the root document of a plain table, where there were no definitions before
abbrev pub NeedsItsDefinitions : State → Data → Type 0
NeedsItsDefinitions s document =
    s.definitions ≡ no_members → IsDraftPath (path_of s) → IsPlainTable s.rows → DefinitionsAreReached (path_of s) document
