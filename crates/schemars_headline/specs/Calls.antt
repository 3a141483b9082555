-- What the calls of a generator return and add, by what it holds before and after.
use Rattle.std.specs.Prelude.{◌≡◌, ℕ, List, [], true, false, Some, None}
use Rattle.serde_json.specs.Data.{Data}
use Rattle.schemars_schema.specs.Json.{Text}
use Rattle.schemars_templates.specs.Finished.{reference}
use Rattle.schemars_documents.specs.PlainTable.{IsPlainTable}
use Rattle.schemars_build.specs.Naming.{name_of}
use Rattle.schemars_build.specs.Placed.{is_in_place}
use Rattle.schemars_build.specs.Registry.{Registry, Step, IsKey, reference_to}
use Rattle.schemars_build.specs.Parts.{IsSubschema}
use Rattle.schemars_build.specs.Reached.{AreReached}
use Rattle.schemars_headline.specs.Headline.{IsRootOf}
use Rattle.schemars_headline.specs.State.{State, path_of, state_plan, registry_of, after_root}

-- row n where it is a part: its own document in place, or a reference
abbrev pub IsPartOf : State → ℕ → Data → Type 0
IsPartOf s n d = IsSubschema (state_plan s None) false (registry_of s) n d

-- the reference to the definition of row n, where the row is not written in place
abbrev pub IsReferenceOf : State → State → ℕ → Data → Type 0
IsReferenceOf old new n d =
    is_in_place old.rows old.settings.inlines [] n ≡ false
    → (name : Text) × (name_of n old.settings.contract new.names ≡ Some name) × IsKey name new.definitions
    × (d ≡ reference (reference_to (path_of old) name))

-- what is added: names by the rule of names, and definitions of the rows of these names
abbrev pub HasAdded : State → State → Type 0
HasAdded old new = Step (state_plan old None) (registry_of old) (registry_of new)

-- in a plain table, all that is added is reached from these references
abbrev pub IsNeeded : State → State → List Data → Type 0
IsNeeded old new from = IsPlainTable old.rows → AreReached (state_plan old None) true (registry_of old) (registry_of new) from

-- the root document of row n, and what the generator holds after the call
abbrev pub IsRootCall : State → ℕ → State → Data → Type 0
IsRootCall old n new d = (w : Registry) × IsRootOf old n w d × (new ≡ after_root old w)

abbrev pub IsLastRootCall : State → ℕ → Data → Type 0
IsLastRootCall old n d = (w : Registry) × IsRootOf old n w d
